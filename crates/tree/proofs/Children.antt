-- The children of a node that is open: by the content models, what kinds follow, and where they lead.
use Prim.Native.Nat.{ℕ, ◌+◌, ◌≤◌, ◌<◌}
use native.Mathlib.Omega.{arith}
use mathlib.Core.Path.{◌≡◌, refl, sym, ◌∙◌}
use mathlib.Core.Bool.{Bool, true, false, ◌&&◌, ◌||◌, not, and-eq-true_iff}
use mathlib.Core.List.{List, [], ◌∷◌}
use mathlib.Core.Option.{some}
use lib.Dec.{eqb, leb}
use lib.ListN.{length}
use borrow.Author.Tests.{eqb-true, eq-eqb, ne_eqb, leb-true, le-leb}
use Rattle.syntax.specs.Kind as Kind
use Rattle.syntax.specs.Marks.{Mark}
use Rattle.syntax.specs.Shape.{among, models, step, final}
use Rattle.syntax.specs.Serializer.{Node, nodes, of_kind}
use Rattle.laws.specs.Bytes.{by_case, clash}
use Rattle.laws.specs.Shape.Run.{otherwise, every_child, every_move, child-rule, rule}
use Rattle.tree.specs.Walk.{kind_at, node_at, after, inner_at, At, TextAt, OneAt, Inside, Open}
use Rattle.tree.proofs.Walk.{Next, ends, goes, next, at-kind}

-- the test that from the state q on a node of the kind k has children of the kinds js alone
abbrev pub Has : (k q : ℕ) (js : List ℕ) → Type 0
Has k q js = every_move (λ k' q' j r. not (eqb k k' && leb q q') || (among j js && leb q r)) models ≡ true

-- the test that in the state q they are of the kinds js, and lead to the state t
abbrev pub Leads : (k q : ℕ) (js : List ℕ) (t : ℕ) → Type 0
Leads k q js t = every_move (λ k' q' j r. not (eqb k k' && eqb q q') || (among j js && eqb r t)) models ≡ true

has : (k q : ℕ) (js : List ℕ) → Has k q js → (p j r : ℕ) → q ≤ p → step k p j ≡ some r → (among j js ≡ true) × (q ≤ r)
has k q js h p j r l s =
    let b =
    otherwise (not (eqb k k && leb q p)) (among j js && leb q r)
    (rule (λ k' q' j r. not (eqb k k' && leb q q') || (among j js && leb q r)) h k p j r s)
    (rw (eq-eqb k k refl, le-leb q p l)) in
    let c = (and-eq-true_iff (among j js) (leb q r)).0 b in
    (c.0, leb-true q r c.1)

leads : (k q : ℕ) (js : List ℕ) (t : ℕ) → Leads k q js t → (j r : ℕ) → step k q j ≡ some r → (among j js ≡ true) × (r ≡ t)
leads k q js t h j r s =
    let b =
    otherwise (not (eqb k k && eqb q q)) (among j js && eqb r t)
    (rule (λ k' q' j r. not (eqb k k' && eqb q q') || (among j js && eqb r t)) h k q j r s)
    (rw (eq-eqb k k refl, eq-eqb q q refl)) in
    let c = (and-eq-true_iff (among j js) (eqb r t)).0 b in
    (c.0, eqb-true r t c.1)

-- a T node, where all the kinds are T kinds
pub text-one : {boundary : ℕ → Bool} {ks : List ℕ} {ms : List Mark} {i : ℕ} → OneAt boundary ks ms i
    → every_child Kind.is_text ks ≡ true → TextAt boundary ms i
text-one {ks = ks} a h = record { kind = a.kind; is_text = child-rule Kind.is_text ks a.kind h a.one; at = a.at }

-- a node of the one kind that there is
pub only : {boundary : ℕ → Bool} {k : ℕ} {ms : List Mark} {i : ℕ} (a : OneAt boundary (k ∷ []) ms i) → a.kind ≡ k
unfolding among
only {k = k} a = by_case (eqb a.kind k) (λ e. eqb-true a.kind k e) (λ e. clash a.one (rw e))

-- a node of the kind that its mark has, and one of the other kinds
pub at-as : {boundary : ℕ → Bool} {ks : List ℕ} {ms : List Mark} {i j : ℕ} → OneAt boundary ks ms i → kind_at ms i ≡ j → At boundary ms i j
at-as a e = rw (sym (at-kind a.at) ∙ e) at a.at

pub others : {boundary : ℕ → Bool} {j : ℕ} {ks : List ℕ} {ms : List Mark} {i : ℕ} → OneAt boundary (j ∷ ks) ms i
    → (kind_at ms i ≡ j → ⊥) → OneAt boundary ks ms i
unfolding among
others {j = j} {ks} a h =
    record {
      kind = a.kind;
      one = otherwise (eqb a.kind j) (among a.kind ks) a.one (ne_eqb a.kind j (λ e. h (at-kind a.at ∙ e)));
      at = a.at;
    }

-- the nodes of a kind: one that is, and one that is not
module _ (source : List ℕ) (k : ℕ) (n : Node) (ns : List Node) where
  pub keeps : n.kind ≡ k → of_kind source (λ j. eqb j k) (n ∷ ns) ≡ n ∷ of_kind source (λ j. eqb j k) ns
  unfolding of_kind
  keeps e = rw (eq-eqb n.kind k e, of_kind)

  pub omits : (n.kind ≡ k → ⊥) → of_kind source (λ j. eqb j k) (n ∷ ns) ≡ of_kind source (λ j. eqb j k) ns
  unfolding of_kind
  omits e = rw (ne_eqb n.kind k e, of_kind)

-- a child of one of the kinds js is next, and leads to the state t
pub record Follows (boundary : ℕ → Bool) (ms : List Mark) (i k : ℕ) (js : List ℕ) (t : ℕ) : Type 0 where
  pub child : OneAt boundary js ms i
  pub on : Inside boundary ms (after ms i) k t
  pub split : nodes (inner_at ms i) ≡ node_at ms i ∷ nodes (inner_at ms (after ms i))
  pub till : i + length (inner_at ms i) ≡ after ms i + length (inner_at ms (after ms i))

-- or to some state from q on
pub record Goes (boundary : ℕ → Bool) (ms : List Mark) (i k q : ℕ) (js : List ℕ) : Type 0 where
  pub state : ℕ
  pub least : q ≤ state
  pub follows : Follows boundary ms i k js state

module _ {boundary : ℕ → Bool} {ms : List Mark} {i k q : ℕ} where
  -- by the mark's kind, in a loop over the children
  pub goes_on : (js : List ℕ) → Has k q js → Open boundary ms i k q → kind_at ms i < Kind.closing 0 → Goes boundary ms i k q js
  goes_on js h n l = go (next n.here)
    where
      go : Next boundary ms i k n.state → Goes boundary ms i k q js
      go (ends c z f) = absurd (omega arith)
      go (goes j r s a o ns t) =
          let b = has k q js h n.state j r n.least s in
          record {
            state = r;
            least = b.1;
            follows = record { child = record { kind = j; one = b.0; at = a }; on = o; split = ns; till = t };
          }

  pub goes-out : Inside boundary ms i k q → Kind.closing 0 ≤ kind_at ms i → inner_at ms i ≡ []
  goes-out n l = go (next n)
    where
      go : Next boundary ms i k q → inner_at ms i ≡ []
      go (ends c z f) = z
      go (goes j r s a o ns t) = absurd (omega (arith, at-kind a, a.known))

  -- by the state, where a child must follow, or none can
  pub must : (js : List ℕ) (t : ℕ) → Leads k q js t → final k q ≡ false → Inside boundary ms i k q → Follows boundary ms i k js t
  must js t h e n = go (next n)
    where
      go : Next boundary ms i k q → Follows boundary ms i k js t
      go (ends c z f) = clash f e
      go (goes j r s a o ns l) = let b = leads k q js t h j r s in
          record { child = record { kind = j; one = b.0; at = a }; on = rw b.1 at o; split = ns; till = l }

  pub none : (t : ℕ) → Leads k q [] t → Inside boundary ms i k q → inner_at ms i ≡ []
  unfolding among
  none t h n = go (next n)
    where
      go : Next boundary ms i k q → inner_at ms i ≡ []
      go (ends c z f) = z
      go (goes j r s a o ns l) = clash (leads k q [] t h j r s).0 refl
