-- `texts::is_text` meets its contract: the text, then the filling.
use mathlib.Core.Path.{sym, ◌∙◌}
use Rattle.std.proofs.lemmas.Bool.{false≢true}
use Rattle.std.proofs.lemmas.Bool.Decides.{Decides-eqb}
use Rattle.std.proofs.lemmas.Slice.Eq.{starts_is}
use Rattle.vectors.specs.Written.{filled_bytes}
use Rattle.vectors.proofs.Rows.{tells-same, tells-false, tells-all}
use Rattle.vectors.proofs.Rewrites.{text-rest, text-is}
use Rattle.vectors.proofs.texts.is_text.Goals as goal

pub returns-then-starts_with : goal.returns-then-starts_with
unfolding filled_bytes
returns-then-starts_with c =
    let s = c.args.output.now in
    let x = c.args.text.now in
    let begins = starts_is Decides-eqb s x _ c.starts_with.ensures.value in
    tells-same (text-is s x (begins.0 c.if-starts_with.true)) (text-rest s x) (tells-all _ _ c.are_all.ensures)

pub returns-else-starts_with : goal.returns-else-starts_with
returns-else-starts_with c =
    let begins = starts_is Decides-eqb c.args.output.now c.args.text.now _ c.starts_with.ensures.value in
    tells-false c.if-starts_with.false (λ e. false≢true (sym c.if-starts_with.false ∙ begins.1 _ e))
