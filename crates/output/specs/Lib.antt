-- What the contracts cite.
pub mod Put
