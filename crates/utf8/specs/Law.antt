-- Laws of well-formed UTF-8 that other crates cite.
use Rattle.std.specs.Prelude.{ℕ, zero, suc, ◌+◌, ◌-◌, ◌≤◌, ◌<◌, ◌⊎◌, ◌≡◌, refl, true, false, List, [], ◌∷◌, ◌++◌, leb, ltb, eqb, length, get_or, take, drop}
use Rattle.std.proofs.Common.{le_of_suc-le-suc, not-suc-le-zero, zero-add, suc-add, arith, inl, inr, sym, ap, ◌∙◌, subst, drop-cons, leb-true, leb-false, lt-ltb, le-ltb, ltb-true, ltb-false, eq-eqb, ne_eqb, eqb-true}
use Rattle.std.proofs.Math.Option.{Option, none, some, map, map-eq-none_iff}
use Rattle.utf8.specs.Utf8.{◌‥◌, table, fits, whole, width_by, width, width_of_first, scan, first_ill_formed, moved}
use Rattle.utf8.specs.Utf8.{WellFormed, is_continuation, is_boundary}
use Rattle.utf8.specs.Sequence.{cases, clash, within-true, first_below, read-within, read-append, read_take, read_first, read-rest}

-- a scan from the start of a sequence, and past it

pub scan-read : (b : ℕ) (s : List ℕ) (w : ℕ) → width (b ∷ s) ≡ suc w → scan 0 (b ∷ s) ≡ map suc (scan w s)
unfolding scan
scan-read b s w e = rw (e, scan)

-- where no fault is found, a sequence was read and none is found past it
pub scan-none : (b : ℕ) (s : List ℕ) → scan 0 (b ∷ s) ≡ none → (w : ℕ) × (width (b ∷ s) ≡ suc w) × (scan w s ≡ none)
unfolding scan
scan-none b s e = go (width (b ∷ s)) refl
  where
    go : (n : ℕ) → width (b ∷ s) ≡ n → (w : ℕ) × (width (b ∷ s) ≡ suc w) × (scan w s ≡ none)
    go zero p = let z : ◌≡◌ {A = Option ℕ} (some 0) none = rw (p, scan) at e in let y : ◌≡◌ {A = ℕ} 0 1 = cc in absurd (omega arith)
    go (suc w) p = (w, p, (map-eq-none_iff suc (scan w s)).0 (sym (scan-read b s w p) ∙ e))

pub scan-skip : (b : ℕ) (s : List ℕ) (k : ℕ) → scan (suc k) (b ∷ s) ≡ none → scan k s ≡ none
unfolding scan
scan-skip b s k e = (map-eq-none_iff suc (scan k s)).0 e

pub scan-more : (b : ℕ) (s : List ℕ) (k : ℕ) → scan k s ≡ none → scan (suc k) (b ∷ s) ≡ none
unfolding scan
scan-more b s k e = rw e

pub scan-start : (b : ℕ) (s : List ℕ) (w : ℕ) → width (b ∷ s) ≡ suc w → scan w s ≡ none → scan 0 (b ∷ s) ≡ none
scan-start b s w p e = scan-read b s w p ∙ ap (map suc) e

pub moved-zero : (o : Option ℕ) → o ≡ moved 0 o
moved-zero none = refl
moved-zero (some n) = ap {B = Option ℕ} some (sym (zero-add n))

moved-suc : (k : ℕ) (o : Option ℕ) → map suc (moved k o) ≡ moved (suc k) o
moved-suc k none = refl
moved-suc k (some n) = ap {B = Option ℕ} some (sym (suc-add k n))

scan-moved : (s : List ℕ) (k : ℕ) → k ≤ length s → scan k s ≡ moved k (scan 0 (drop k s))
unfolding scan
scan-moved s zero h = moved-zero (scan 0 s)
scan-moved [] (suc k) h = absurd (not-suc-le-zero h)
scan-moved (x ∷ s) (suc k) h = ap (map suc) (scan-moved s k (le_of_suc-le-suc h)) ∙ moved-suc k (scan 0 (drop k s))

-- where no sequence starts, the first byte is the fault
pub ill-here : (b : ℕ) (s : List ℕ) → width (b ∷ s) ≡ 0 → first_ill_formed (b ∷ s) ≡ some 0
unfolding first_ill_formed scan
ill-here b s e = rw (e, scan)

-- past a sequence, faults are those of the rest
pub ill-past : (b : ℕ) (s : List ℕ) (w : ℕ) → width (b ∷ s) ≡ suc w
    → first_ill_formed (b ∷ s) ≡ moved (suc w) (first_ill_formed (drop w s))
unfolding first_ill_formed
ill-past b s w e =
    scan-read b s w e ∙ ap (map suc) (scan-moved s w (read-within b s w e)) ∙ moved-suc w (scan 0 (drop w s))

-- the end, or a place where no continuation byte stands: what a boundary past the start is
abbrev Edge : List ℕ → ℕ → Type 0
Edge s k = (k ≡ length s) ⊎ ((k < length s) × (is_continuation (get_or s k 0) ≡ false))

edge-boundary : (s : List ℕ) (k : ℕ) → Edge s k → is_boundary s k ≡ true
unfolding is_boundary
edge-boundary s k (inl e) =
    cases (eqb k 0) (λ t. rw (t, is_boundary)) (λ t. rw (t, is_boundary, le-ltb k (length s) (omega arith)) (eq-eqb k (length s) e))
edge-boundary s k (inr h) =
    cases (eqb k 0) (λ t. rw (t, is_boundary)) (λ t. rw (t, is_boundary, lt-ltb k (length s) h.0, h.1))

boundary-edge : (s : List ℕ) (k : ℕ) → is_boundary s (suc k) ≡ true → Edge s (suc k)
unfolding is_boundary
boundary-edge s k e =
    let t : eqb (suc k) 0 ≡ false = ne_eqb (suc k) 0 (omega arith) in
    cases (ltb (suc k) (length s))
    (λ u.
    cases (is_continuation (get_or s (suc k) 0)) (λ v. clash (sym (rw (t, is_boundary, u, v) at e)))
    (λ v. inr (ltb-true (suc k) (length s) u, v)))
    (λ u. inl (eqb-true (suc k) (length s) (rw (t, is_boundary, u) at e)))

edge-tail : (b : ℕ) (s : List ℕ) (k : ℕ) → Edge (b ∷ s) (suc k) → Edge s k
edge-tail b s k (inl e) = inl (omega arith)
edge-tail b s k (inr h) = inr (omega arith, h.1)

edge-cons : (b : ℕ) (s : List ℕ) (k : ℕ) → Edge s k → Edge (b ∷ s) (suc k)
edge-cons b s k (inl e) = inl (omega arith)
edge-cons b s k (inr h) = inr (omega arith, h.1)

-- no edge lies among continuation bytes
edge-past : (s : List ℕ) (m k : ℕ) → m ≤ length s → ((i : ℕ) → i < m → is_continuation (get_or s i 0) ≡ true) → Edge s k → m ≤ k
edge-past s m k h f (inl e) = omega arith
edge-past s m k h f (inr g) = cases (leb m k) (λ t. leb-true m k t) (λ t. clash (sym (f k (leb-false m k t)) ∙ g.1))

scan-parts : (s : List ℕ) (m k : ℕ) → m ≤ k → scan m s ≡ none → Edge s k
    → (scan m (take k s) ≡ none) × (scan 0 (drop k s) ≡ none)
unfolding scan
scan-parts [] m zero h e g = (refl, refl)
scan-parts [] m (suc k) h e g = (refl, refl)
scan-parts (x ∷ s) zero zero h e g = (refl, e)
scan-parts (x ∷ s) (suc m) zero h e g = absurd (not-suc-le-zero h)
scan-parts (x ∷ s) zero (suc k) h e g =
    let p = scan-none x s e in
    let w = p.0 in
    let past = edge-past s w k (read-within x s w p.1) (read-rest x s w p.1) (edge-tail x s k g) in
    let q = scan-parts s w k past p.2 (edge-tail x s k g) in
    (scan-start x (take k s) w (read_take x s w k past p.1) q.0, q.1)
scan-parts (x ∷ s) (suc m) (suc k) h e g =
    let q = scan-parts s m k (le_of_suc-le-suc h) (scan-skip x s m e) (edge-tail x s k g) in
    (scan-more x (take k s) m q.0, q.1)

-- a boundary parts a well-formed source into two
pub boundary-parts : (s : List ℕ) (k : ℕ) → WellFormed s → is_boundary s k ≡ true → WellFormed (take k s) × WellFormed (drop k s)
unfolding first_ill_formed scan
boundary-parts s zero e g = (refl, e)
boundary-parts s (suc k) e g = scan-parts s 0 (suc k) (omega arith) e (boundary-edge s k g)

-- a scan that has passed a sequence stands at an edge
edge-after : (s : List ℕ) (m : ℕ) → m ≤ length s → scan m s ≡ none → Edge s m
edge-after [] zero h e = inl refl
edge-after [] (suc m) h e = absurd (not-suc-le-zero h)
edge-after (x ∷ s) zero h e = let p = scan-none x s e in inr (omega arith, (read_first x s p.0 p.1).1)
edge-after (x ∷ s) (suc m) h e = edge-cons x s m (edge-after s m (le_of_suc-le-suc h) (scan-skip x s m e))

edge-drop : (s : List ℕ) (k j : ℕ) → k ≤ length s → Edge (drop k s) j → Edge s (k + j)
edge-drop s zero j h g = rw zero-add g
edge-drop [] (suc k) j h g = absurd (not-suc-le-zero h)
edge-drop (x ∷ s) (suc k) j h g = rw suc-add (edge-cons x s (k + j) (edge-drop s k j (le_of_suc-le-suc h) g))

-- from a boundary before the end, the next is past the character there, whose first byte says its width
pub boundary-next : (s : List ℕ) (k : ℕ) → WellFormed s → is_boundary s k ≡ true → k < length s
    → (is_boundary s (k + width (drop k s)) ≡ true) × (width (drop k s) ≡ width_of_first (get_or s k 0))
unfolding first_ill_formed
boundary-next s k e g h =
    let b = get_or s k 0 in
    let r = drop (suc k) s in
    let d : drop k s ≡ b ∷ r = drop-cons s k 0 h in
    let p = scan-none b r (rw d at (boundary-parts s k e g).1) in
    let w = p.0 in
    let n : width (drop k s) ≡ suc w = ap width d ∙ p.1 in
    let edge = edge-cons b r w (edge-after r w (read-within b r w p.1) p.2) in (
      rw n (edge-boundary s (k + suc w) (edge-drop s k (suc w) (omega arith) (subst (λ (l : List ℕ). Edge l (suc w)) (sym d) edge))),
      n ∙ sym (read_first b r w p.1).0,
    )

-- an ASCII byte is a character
pub ascii-boundary : (s : List ℕ) (k : ℕ) → WellFormed s → k < length s → get_or s k 0 < 128
    → (is_boundary s k ≡ true) × (is_boundary s (k + 1) ≡ true)
ascii-boundary s k e h l =
    let f = first_below (get_or s k 0) (omega arith) in
    let g = edge-boundary s k (inr (h, f.1)) in
    let q = boundary-next s k e g h in
    (g, rw (q.1, f.0) at q.0)

-- past what is read without a fault, the faults are those of what follows
scan-onward : (s t : List ℕ) (m : ℕ) → m ≤ length s → scan m s ≡ none → scan m (s ++ t) ≡ moved (length s) (scan 0 t)
unfolding scan
scan-onward [] t zero h e = moved-zero (scan 0 t)
scan-onward [] t (suc m) h e = absurd (not-suc-le-zero h)
scan-onward (x ∷ s) t zero h e =
    let p = scan-none x s e in
    let w = p.0 in
    scan-read x (s ++ t) w (read-append x s t w p.1) ∙ ap (map suc) (scan-onward s t w (read-within x s w p.1) p.2)
    ∙ moved-suc (length s) (scan 0 t)
scan-onward (x ∷ s) t (suc m) h e =
    ap (map suc) (scan-onward s t m (le_of_suc-le-suc h) (scan-skip x s m e)) ∙ moved-suc (length s) (scan 0 t)

pub formed-onward : (s t : List ℕ) → WellFormed s → first_ill_formed (s ++ t) ≡ moved (length s) (first_ill_formed t)
unfolding first_ill_formed
formed-onward s t e = scan-onward s t 0 (omega arith) e

-- well-formed sources in a row
pub append-formed : (s t : List ℕ) → WellFormed s → WellFormed t → WellFormed (s ++ t)
unfolding first_ill_formed
append-formed s t e f = formed-onward s t e ∙ ap (moved (length s)) f

edge-dropped : (s : List ℕ) (k j : ℕ) → Edge s (k + j) → Edge (drop k s) j
edge-dropped s zero j g = rw zero-add at g
edge-dropped [] (suc k) j (inl e) = absurd (omega arith)
edge-dropped [] (suc k) j (inr h) = absurd (omega (arith, h.0))
edge-dropped (x ∷ s) (suc k) j g = edge-dropped s k j (edge-tail x s (k + j) (rw suc-add at g))

-- what stands between two boundaries
pub span-formed : (s : List ℕ) (a e : ℕ) → WellFormed s → is_boundary s a ≡ true → is_boundary s e ≡ true
    → WellFormed (take (e - a) (drop a s))
unfolding first_ill_formed scan
span-formed s a e w p q =
    cases (ltb a e) (λ t. after (ltb-true a e t)) (λ t. let z : e - a ≡ 0 = omega (arith, ltb-false a e t) in rw z refl)
  where
    after : a < e → WellFormed (take (e - a) (drop a s))
    after l =
        let n : e ≡ suc (e - 1) = omega arith in
        let m : e ≡ a + (e - a) = omega arith in
        let g : Edge s (a + (e - a)) = subst (Edge s) (sym n ∙ m) (boundary-edge s (e - 1) (subst (λ k. is_boundary s k ≡ true) n q)) in
        (boundary-parts (drop a s) (e - a) (boundary-parts s a w p).1 (edge-boundary (drop a s) (e - a) (edge-dropped s a (e - a) g))).0

-- an ASCII byte before a well-formed source
pub ascii_cons : (b : ℕ) (s : List ℕ) → b ≤ 127 → WellFormed s → WellFormed (b ∷ s)
unfolding first_ill_formed width width_by table whole fits
ascii_cons b s h e = scan-start b s 0 (rw (within-true (0x00 ‥ 0x7F) b (omega arith) h, width_by)) e
