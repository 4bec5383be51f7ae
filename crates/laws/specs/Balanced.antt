-- Marks in nodes: every node that opens closes.
pub mod Nodes
use Rattle.std.specs.Prelude.{ℕ, suc, ◌+◌, ◌-◌, ◌<◌, ◌≡◌, refl, Bool, true, false, List, [], ◌∷◌, ◌++◌, ltb}
use Rattle.std.proofs.Common.{zero-add, arith, sym, subst, append_assoc, lt-ltb, le-ltb}
use Rattle.syntax.specs.Marks.{Mark, plain, kind_of, node, text_node}
use Rattle.syntax.specs.Shape.{Run, stay, text, nest}
use Rattle.laws.specs.Shape.Run.{known-child}

-- from d nodes open to none
abbrev pub Levels : ℕ → List Mark → Type 0
Levels d [] = d ≡ 0
Levels d (m ∷ ms) = elim (ltb (kind_of m) 100) [ true ↦ Levels (suc d) ms | false ↦ (0 < d) × Levels (d - 1) ms ]

-- after a mark that opens a node, or closes one
abbrev pub Opened : Bool → ℕ → List Mark → Type 0
Opened v d ms = elim v [ true ↦ Levels (suc d) ms | false ↦ (0 < d) × Levels (d - 1) ms ]

pub levels-append : (d e : ℕ) (ms ns : List Mark) → Levels d ms → Levels e ns → Levels (d + e) (ms ++ ns)
levels-append d e [] ns l r = subst (λ z. Levels (z + e) ns) (sym l) (subst (λ z. Levels z ns) (sym (zero-add e)) r)
levels-append d e (m ∷ ms) ns l r = by (ltb (kind_of m) 100) l (λ i g. levels-append i e ms ns g r)
  where
    by : (v : Bool) → Opened v d ms → ((i : ℕ) → Levels i ms → Levels (i + e) (ms ++ ns)) → Opened v (d + e) (ms ++ ns)
    by true l f = let z : suc d + e ≡ suc (d + e) = omega arith in subst (λ i. Levels i (ms ++ ns)) z (f (suc d) l)
    by false l f = let z : d - 1 + e ≡ d + e - 1 = omega (arith, l.0) in
        (omega (arith, l.0), subst (λ i. Levels i (ms ++ ns)) z (f (d - 1) l.1))

closes : (kind : ℕ) → ltb (100 + kind) 100 ≡ false
closes kind = le-ltb (100 + kind) 100 (omega arith)

-- the children of a node, by the run that they are
pub run-levels : {boundary : ℕ → Bool} {left k q t : ℕ} {ms : List Mark} → Run boundary left k q t ms → Levels 0 ms
unfolding node text_node
run-levels stay = refl
run-levels (text {k = k} {q} {r} j a e i s x y l rest) =
    let h = lt-ltb j 100 (omega (arith, (known-child k q j r s).1)) in
    rw (h, Levels) (rw (closes j, Levels) (omega arith, run-levels rest))
run-levels (nest {k = k} {q} {r} {j = j} {inner} {ms} i s o w f rest) =
    let h = lt-ltb j 100 (omega (arith, (known-child k q j r s).1)) in
    rw (h, Levels) (subst (Levels 1) (sym (append_assoc inner (plain (100 + j) ∷ []) ms))
    (levels-append 0 1 inner (plain (100 + j) ∷ ms) (run-levels w) (rw (closes j, Levels) (omega arith, run-levels rest))))
