-- The entries of a file that is cut.
use Prim.Native.Nat.{ℕ, zero, suc, ◌+◌, ◌-◌, ◌≤◌, ◌<◌}
use Rattle.std.proofs.Math.Nat.{not-suc-le-zero}
use Rattle.std.proofs.Common.{add-zero, suc-add, add_assoc, ◌∙◌, drop_of_length-le, drop-drop}
use native.Mathlib.Omega.{arith}
use Rattle.std.proofs.Math.Path.{◌≡◌, refl, sym, ap, ap₂, subst}
use Rattle.std.specs.Prelude.{◌⊎◌, Bool, true, ◌&&◌, ◌||◌, not}
use Rattle.std.proofs.Math.Logic.{inl, inr}
use Rattle.std.proofs.Math.Bool.{false}
use mathlib.Core.List.{List, [], ◌∷◌, ◌++◌, map, append-nil, append_assoc}
use Rattle.std.proofs.Math.ListN.{drop, length, length-drop, length-append}
use Rattle.std.proofs.Math.Dec.{eqb, ltb}
use borrow.Author.Tests.{eqb-true, eqb-false, ltb-true, ltb-false, eq-eqb}
use Rattle.syntax.specs.Bytes.{starts_with, run}
use Rattle.syntax.specs.Marks.{Mark, move_up, node}
use Rattle.syntax.specs.Reader.{Out, ok, bad, deep, after, loop, repeat}
use Rattle.syntax.specs.Helper.{skip_blank_block, block_turn}
use Rattle.syntax.specs.Comment.{get_comment, comment_turn}
use Rattle.syntax.specs.Pattern.{Inside, used_by}
use Rattle.syntax.specs.Core.{Fields, fields, term_fields, Entry, comment, message, term, as_message, as_term, as_comment}
use Rattle.syntax.specs.Core.{get_entry, line_starts_at, Error, up_error, Reading, read, refused, following, is_named}
use Rattle.syntax.specs.Core.{kind_of_entry, entries}
use Rattle.laws.specs.Bytes.{Whole, whole_drop, Fresh, Stop, stop-fresh, by_case, clash, drop_app}
use Rattle.laws.specs.Answers.{Holds, sure-ok}
use Rattle.laws.specs.Stable.{fresh, Within, Carries}
use Rattle.laws.specs.Stable.Pattern.{InsideLaw, block_within, block_same}
use Rattle.laws.specs.Stable.Helper.{block-sure}
use Rattle.laws.specs.Stable.Entry.{Cut, entry-ends, entry-stops}
use Rattle.laws.specs.Moving.{move_up-append, move_up-twice, move_up-zero, up_errors-twice, up_errors-zero}
use Rattle.laws.specs.Lines.{starts-add, starts-later}
use Rattle.laws.specs.Stable.Comment.{after-ok, Cutting, before, newline, end, Goes, GoesBy, cutting}
use Rattle.laws.specs.Lines.Join.{Own, Other, own-or-other}
use Rattle.laws.specs.Lines.Lands.{Lands, whole-lands, block-lands, entry-lands}
use Rattle.laws.specs.File.{entries-more}
use Rattle.laws.specs.Entries.{following-read, weight, weight-append, weight-up, weight-node, entries_with, not-deep}
use Rattle.laws.specs.Entries.{Step, step_of, block-fresh, block-ten, block-two, block_one, entry-comment, hash-named}
use Rattle.laws.specs.Entries.{nil-named, nil-entry, not-dotted}
use Rattle.cut.specs.LastLine.{last_line-at, last_line-drop, Tail, tail_of}
use Rattle.cut.specs.Claim.{last_line, hashes}

-- whether a first entry, as it is read, joins a comment line of the level l that stands right before it
unfoldable pub Joins : ℕ → Out Entry → Type 0
Joins l (ok (comment k) ms j) = k ≡ l
Joins l (ok message ms j) = l ≡ 1
Joins l (ok term ms j) = l ≡ 1
Joins l (bad f j) = ⊥
Joins l (deep j) = ⊥

pub as_comment-ok : (o : Out ℕ) (e : Entry) (ms : List Mark) (k : ℕ) → as_comment o ≡ ok e ms k → (l : ℕ) × (e ≡ comment l) × (o ≡ ok l ms k)
unfolding as_comment
as_comment-ok (ok l ns j) e ms k h = (l, cc, cc)
as_comment-ok (bad f j) e ms k h = let z : ◌≡◌ {A = ℕ} 0 1 = cc in absurd (omega arith)
as_comment-ok (deep j) e ms k h = let z : ◌≡◌ {A = ℕ} 0 1 = cc in absurd (omega arith)

-- a kind that does not depend on what follows
abbrev Settled : Entry → Type 0
Settled e = (v w : Bool) → kind_of_entry e v ≡ kind_of_entry e w

as_message-settled : (o : Out Fields) (e : Entry) (ms : List Mark) (k : ℕ) → as_message o ≡ ok e ms k → e ≡ message
unfolding as_message
as_message-settled (ok f ns j) e ms k h =
    by_case (f.value || not (eqb f.attributes 0))
    (λ q. let g : ok message ns j ≡ ok e ms k = rw (q, as_message) at h in cc)
    (λ q. let g = rw (q, as_message) at h in let z : ◌≡◌ {A = ℕ} 0 1 = cc in absurd (omega arith))
as_message-settled (bad f j) e ms k h = let z : ◌≡◌ {A = ℕ} 0 1 = cc in absurd (omega arith)
as_message-settled (deep j) e ms k h = let z : ◌≡◌ {A = ℕ} 0 1 = cc in absurd (omega arith)

as_term-settled : (o : Out Fields) (e : Entry) (ms : List Mark) (k : ℕ) → as_term o ≡ ok e ms k → e ≡ term
unfolding as_term
as_term-settled (ok f ns j) e ms k h =
    by_case f.value (λ q. let g : ok term ns j ≡ ok e ms k = rw (q, as_term) at h in cc)
    (λ q. let g = rw (q, as_term) at h in let z : ◌≡◌ {A = ℕ} 0 1 = cc in absurd (omega arith))
as_term-settled (bad f j) e ms k h = let z : ◌≡◌ {A = ℕ} 0 1 = cc in absurd (omega arith)
as_term-settled (deep j) e ms k h = let z : ◌≡◌ {A = ℕ} 0 1 = cc in absurd (omega arith)

module _ (sub : Inside) where
  pub named-entry : (b : ℕ) (bs : List ℕ) (e : Entry) (ms : List Mark) (k : ℕ) → eqb b 35 ≡ false
      → get_entry sub (b ∷ bs) ≡ ok e ms k → (e ≡ message) ⊎ (e ≡ term)
  unfolding get_entry starts_with
  named-entry b bs e ms k q h = by_case (eqb b 45)
      (λ r. inr (as_term-settled (term_fields sub (b ∷ bs)) e ms k (rw r at (rw (q, get_entry) at h))))
      (λ r. inl (as_message-settled (fields sub (b ∷ bs)) e ms k (rw r at (rw (q, get_entry) at h))))

  settled : (b : ℕ) (bs : List ℕ) (e : Entry) (ms : List Mark) (k : ℕ) → eqb b 35 ≡ false → get_entry sub (b ∷ bs) ≡ ok e ms k → Settled e
  unfolding kind_of_entry
  settled b bs e ms k q h = go (named-entry b bs e ms k q h)
    where
      go : (e ≡ message) ⊎ (e ≡ term) → Settled e
      go (inl z) = rw z (λ v w. refl)
      go (inr z) = rw z (λ v w. refl)

  -- a first entry joins a comment line: what it is
  joins-named : (c : ℕ) (cs : List ℕ) (l : ℕ) → eqb c 35 ≡ false → Joins l (get_entry sub (c ∷ cs))
      → (is_named (get_entry sub (c ∷ cs)) ≡ true) × (l ≡ 1)
  joins-named c cs l q h = go (get_entry sub (c ∷ cs)) (λ e ms k z. named-entry c cs e ms k q z) h
    where
      go : (o : Out Entry) → ((e : Entry) (ms : List Mark) (k : ℕ) → o ≡ ok e ms k → (e ≡ message) ⊎ (e ≡ term))
          → Joins l o → (is_named o ≡ true) × (l ≡ 1)
      go (ok (comment i) ms k) f g = absurd (no (f (comment i) ms k refl))
        where
          no : (comment i ≡ message) ⊎ (comment i ≡ term) → ⊥
          no (inl z) = let y : ◌≡◌ {A = ℕ} 0 1 = cc in omega arith
          no (inr z) = let y : ◌≡◌ {A = ℕ} 0 1 = cc in omega arith
      go (ok message ms k) f g = unfold Joins is_named in (refl, g)
      go (ok term ms k) f g = unfold Joins is_named in (refl, g)
      go (bad x k) f g = absurd (unfold Joins in g)
      go (deep k) f g = absurd (unfold Joins in g)

  named-joins : (c : ℕ) (cs : List ℕ) → is_named (get_entry sub (c ∷ cs)) ≡ true → Joins 1 (get_entry sub (c ∷ cs))
  named-joins c cs h = go (get_entry sub (c ∷ cs)) h
    where
      go : (o : Out Entry) → is_named o ≡ true → Joins 1 o
      go (ok (comment i) ms k) g = clash g (unfold is_named in refl)
      go (ok message ms k) g = unfold Joins in refl
      go (ok term ms k) g = unfold Joins in refl
      go (bad x k) g = clash g (unfold is_named in refl)
      go (deep k) g = clash g (unfold is_named in refl)

module _ (sub : Inside) (law : InsideLaw sub) (y : List ℕ) (f : Fresh y) where
  -- what a cut after s makes of its first entry: nothing, or it was a comment that used up s
  pub data Way (n : ℕ) (s : List ℕ) (ma : List Mark) (t : Step sub n s ma) : Type 0 where
    kept : get_entry sub (s ++ y) ≡ ok t.e t.ms t.k → t.k ≤ length s → (line_starts_at t.k s ≡ true) ⊎ (0 < t.u)
        → (t.k + t.u ≡ length s → (starts_with 35 (last_line s) ≡ true → ⊥)
        × ((v w : Bool) → kind_of_entry t.e (ltb t.c 2 && v) ≡ kind_of_entry t.e (ltb t.c 2 && w)))
        → Way n s ma t
    ended : (l : ℕ) → t.e ≡ comment l → t.k ≡ length s → starts_with 35 (last_line s) ≡ true → hashes (last_line s) ≡ l
        → Goes y l t.ms t.k (get_comment (s ++ y)) → Way n s ma t

  carried : (N : ℕ → Type 0) (o o' : Out Entry) (e : Entry) (ms : List Mark) (k : ℕ) → o ≡ ok e ms k → Carries N o o' → N k → o' ≡ ok e ms k
  carried N o o' e ms k p c u = subst (λ z. Carries N z o') p c u

  fits : (n : ℕ) (o : Out Entry) (e : Entry) (ms : List Mark) (k : ℕ) → o ≡ ok e ms k → Within n o → k ≤ n
  fits n o e ms k p h = subst (Within n) p h

  pub used-of : (o : Out ℕ) (c : ℕ) (gs : List Mark) (u : ℕ) → o ≡ ok c gs u → used_by o ≡ u
  unfolding used_by
  used-of o c gs u p = ap used_by p

  -- a gap is within what stands before a comment line
  pub gap_within : (x z : List ℕ) → Whole x → Stop z → (c : ℕ) (gs : List Mark) (u : ℕ) → skip_blank_block (x ++ z) ≡ ok c gs u → u ≤ length x
  gap_within x z w s c gs u p = subst (λ i. i ≤ length x) (used-of (skip_blank_block (x ++ z)) c gs u p) (block_within x z w s)

  named-way : (n b : ℕ) (bs : List ℕ) (ma : List Mark) (t : Step sub n (b ∷ bs) ma) → Whole (b ∷ bs) → eqb b 35 ≡ false
      → Way n (b ∷ bs) ma t
  named-way n b bs ma t w q =
      let le : t.k ≤ suc (length bs) =
      fits (suc (length bs)) (get_entry sub (b ∷ bs)) t.e t.ms t.k t.entry
      (subst (λ z. Within (suc (length bs)) (get_entry sub z)) (append-nil (b ∷ bs))
      (entry-stops sub law b bs [] w tt q)) in
      kept
      (carried (Cut sub law (b ∷ bs)) (get_entry sub (b ∷ bs)) (get_entry sub ((b ∷ bs) ++ y)) t.e t.ms t.k
      t.entry (entry-ends sub law b bs y w f q) (le, not-dotted sub n (b ∷ bs) ma t))
      le
      (inl
      (whole-lands b bs t.k w le
      (subst (Holds (λ e ms k. Lands (b ∷ bs) k)) t.entry
      (entry-lands sub law.bounds (b ∷ bs) (unfold starts_with in q)))))
      (λ z. (
        λ h. apart (tail_of (b ∷ bs) w h) z,
        λ v w. settled sub b bs t.e t.ms t.k q t.entry (ltb t.c 2 && v) (ltb t.c 2 && w),
      ))
    where
      go : (x z : List ℕ) → b ∷ bs ≡ x ++ z → Whole x → Stop z → 0 < length z → t.k + t.u ≡ length (b ∷ bs) → ⊥
      go [] (c ∷ cs) e v s l h = let i : b ≡ c = cc in clash (eq-eqb b 35 (i ∙ s)) q
      go [] [] e v s l h = not-suc-le-zero l
      go (d ∷ ds) z e v s l h =
          let d35 : eqb d 35 ≡ false = (let i : b ≡ d = cc in ap (λ a. eqb a 35) (sym i) ∙ q) in
          let k : t.k ≤ suc (length ds) =
          fits (suc (length ds)) (get_entry sub ((d ∷ ds) ++ z)) t.e t.ms t.k
          (ap (get_entry sub) (sym e) ∙ t.entry) (entry-stops sub law d ds z v s d35) in
          let u =
          gap_within (drop t.k (d ∷ ds)) z (whole_drop t.k (d ∷ ds) v) s t.c t.gs t.u
          (ap skip_blank_block (sym (drop_app t.k (d ∷ ds) z k) ∙ ap (drop t.k) (sym e)) ∙ t.gap) in
          omega (arith, length-drop t.k (d ∷ ds), ap length e, length-append (d ∷ ds) z)

      apart : Tail (b ∷ bs) → t.k + t.u ≡ length (b ∷ bs) → ⊥
      apart a h = go a.front a.back a.split a.whole a.stop a.some h

  comment-way : (n b : ℕ) (bs : List ℕ) (ma : List Mark) (t : Step sub n (b ∷ bs) ma) → Whole (b ∷ bs) → eqb b 35 ≡ true
      → Way n (b ∷ bs) ma t
  unfolding get_comment repeat starts_with hashes
  comment-way n b bs ma t w q =
      let (l, el, o) = as_comment-ok (get_comment (b ∷ bs)) t.e t.ms t.k (sym (entry-comment sub b bs q) ∙ t.entry) in
      go l el (cutting (suc (length (b ∷ bs))) 0 (b ∷ bs) w q l t.ms t.k o)
    where
      full : (l : ℕ) → t.e ≡ comment l → get_comment ((b ∷ bs) ++ y) ≡ ok l t.ms t.k
          → get_entry sub ((b ∷ bs) ++ y) ≡ ok t.e t.ms t.k
      full l el o = entry-comment sub b (bs ++ y) q ∙ ap as_comment o ∙ (unfold as_comment in ap (λ z. ok z t.ms t.k) (sym el))

      some : (r : List ℕ) (c : ℕ) (cs : List ℕ) → drop t.k (b ∷ bs) ≡ r → r ≡ c ∷ cs → t.k < length (b ∷ bs)
      some r c cs e g = by_case (ltb t.k (length (b ∷ bs))) (λ z. ltb-true t.k (length (b ∷ bs)) z)
          (λ z. let h : ◌≡◌ {A = List ℕ} [] (c ∷ cs) =
          sym (drop_of_length-le (b ∷ bs) (ltb-false t.k (length (b ∷ bs)) z))
          ∙ e ∙ g in
          let i : ◌≡◌ {A = ℕ} 0 1 = cc in absurd (omega arith))

      go : (l : ℕ) → t.e ≡ comment l → Cutting 0 (b ∷ bs) l t.ms t.k → Way n (b ∷ bs) ma t
      go l el (before c cs d h ls g) =
          kept (full l el (g y (suc (length ((b ∷ bs) ++ y))) (omega arith))) (omega (arith, some (c ∷ cs) c cs d refl)) (inl ls)
          (λ z. absurd
          (let p : skip_blank_block (drop t.k (b ∷ bs)) ≡ ok 0 [] 0 = ap skip_blank_block d
          ∙ block-fresh (c ∷ cs) (stop-fresh (c ∷ cs) (eqb-true c 35 h)) in
          let i : 0 ≡ t.u = zero_of (skip_blank_block (drop t.k (b ∷ bs))) p t.gap in omega (arith, some (c ∷ cs) c cs d refl)))
        where
          zero_of : (o : Out ℕ) → o ≡ ok 0 [] 0 → o ≡ ok t.c t.gs t.u → 0 ≡ t.u
          zero_of o p r = cc
      go l el (newline c cs d g) =
          kept (full l el (g y (suc (length ((b ∷ bs) ++ y))) (omega arith)))
          (omega (arith, some (10 ∷ c ∷ cs) 10 (c ∷ cs) d refl)) (inr more)
          (λ z. (λ h. apart (tail_of (c ∷ cs) rest-whole (subst (λ a. starts_with 35 a ≡ true) last h)) z, λ v w. rw (two z) refl))
        where
          gap : skip_blank_block (10 ∷ c ∷ cs) ≡ ok t.c t.gs t.u
          gap = ap skip_blank_block (sym d) ∙ t.gap

          more : 0 < t.u
          more = let (ns, j, o, m, p) =
              after-ok [] 1 (loop (suc (length (c ∷ cs))) block_turn 1 (c ∷ cs)) t.c t.gs t.u
              (sym (block-ten (c ∷ cs)) ∙ gap) in
              omega arith

          len : length (b ∷ bs) ≡ t.k + (2 + length cs)
          len = omega (arith, length-drop t.k (b ∷ bs), ap length d, some (10 ∷ c ∷ cs) 10 (c ∷ cs) d refl)

          two : t.k + t.u ≡ length (b ∷ bs) → ltb t.c 2 ≡ false
          two z = block-two c cs t.c t.gs t.u gap (omega (arith, len))

          rest : drop (t.k + 1) (b ∷ bs) ≡ c ∷ cs
          rest = sym (drop-drop 1 t.k (b ∷ bs)) ∙ ap (drop 1) d

          rest-whole : Whole (c ∷ cs)
          rest-whole = subst Whole rest (whole_drop (t.k + 1) (b ∷ bs) w)

          last : last_line (b ∷ bs) ≡ last_line (c ∷ cs)
          last =
              last_line-drop (t.k + 1) (b ∷ bs)
              (starts-later t.k 1 (b ∷ bs) (omega arith) (unfold line_starts_at in (rw d refl)))
              (whole_drop (t.k + 1) (b ∷ bs) w) (rw rest (omega arith))
              ∙ ap last_line rest

          ten : (x : List ℕ) → Whole x → Whole (10 ∷ x)
          ten [] v = refl
          ten (a ∷ z) v = v

          apart : Tail (c ∷ cs) → t.k + t.u ≡ length (b ∷ bs) → ⊥
          apart a z =
              let h =
              gap_within (10 ∷ a.front) a.back (ten a.front a.whole) a.stop t.c t.gs t.u
              (ap (λ r. skip_blank_block (10 ∷ r)) (sym a.split) ∙ gap) in
              omega (arith, len, ap length a.split, length-append a.front a.back, a.some)
      go l el (end e i ls one hash r g) =
          let last : last_line (b ∷ bs) ≡ drop i (b ∷ bs) = last_line-at i (b ∷ bs) ls one in
          ended l el e (subst (λ a. starts_with 35 a ≡ true) (sym last) hash) (ap hashes last ∙ r)
          (g y (suc (length ((b ∷ bs) ++ y))) (omega arith))

  pub way : (n b : ℕ) (bs : List ℕ) (ma : List Mark) (t : Step sub n (b ∷ bs) ma) → Whole (b ∷ bs) → Way n (b ∷ bs) ma t
  way n b bs ma t w = by_case (eqb b 35) (λ q. comment-way n b bs ma t w q) (λ q. named-way n b bs ma t w q)

pub and-false : (v : Bool) → (v && false) ≡ false
and-false true = refl
and-false false = refl

hash-pos : (z : List ℕ) → starts_with 35 z ≡ true → 0 < hashes z
unfolding hashes run starts_with
hash-pos [] h = clash h refl
hash-pos (b ∷ bs) h = rw (h, run) (omega arith)

whole-last : (b : ℕ) (bs : List ℕ) → Whole (b ∷ bs) → drop (length bs) (b ∷ bs) ≡ 10 ∷ []
whole-last b [] w = ap (λ z. z ∷ []) w
whole-last b (c ∷ cs) w = whole-last c cs w

triple : (o : Out ℕ) (a b : ℕ) (ms ns : List Mark) (k j : ℕ) → o ≡ ok a ms k → o ≡ ok b ns j → (a ≡ b) × (ms ≡ ns) × (k ≡ j)
triple o a b ms ns k j p q = (cc, cc, cc)

joins-comment : (l : ℕ) (o : Out ℕ) → Joins l (as_comment o) → (ms : List Mark) × (k : ℕ) × (o ≡ ok l ms k)
unfolding Joins as_comment
joins-comment l (ok i ms k) h = (ms, k, ap (λ z. ok z ms k) h)
joins-comment l (bad e k) h = absurd h
joins-comment l (deep k) h = absurd h

module _ (sub : Inside) (law : InsideLaw sub) (y : List ℕ) (f : Fresh y) (m : ℕ) (mb : List Mark) (eb : List Error)
    (read_b : entries m sub y ≡ read mb eb) where
  abbrev pub Exc : List ℕ → Type 0
  Exc s = (starts_with 35 (last_line s) ≡ true) × Joins (hashes (last_line s)) (get_entry sub y)

  pub record Joint (s : List ℕ) (ma : List Mark) (r : Reading) : Type 0 where
    pub mab : List Mark
    pub reads : r ≡ read mab (map (up_error (length s)) eb)
    pub tree : ((Exc s → ⊥) × (mab ≡ ma ++ move_up (length s) mb)) ⊎ (Exc s × (weight mab ≡ weight ma + weight mb → ⊥))

  pub no-exc : Exc [] → ⊥
  unfolding last_line starts_with
  no-exc x = clash x.0 refl

  nil-joint : (n : ℕ) → Joint [] [] (entries (suc n + m) sub y)
  nil-joint n = record {
    mab = mb;
    reads = entries-more sub m (suc n + m) y mb eb (omega arith) read_b ∙ ap (read mb) (sym (up_errors-zero eb));
    tree = inl (no-exc, sym (move_up-zero mb));
  }

  module _ (s r : List ℕ) (ms mr : List Mark) (k : ℕ) (read₁ read₂ : Reading) (e : read₁ ≡ following ms [] k read₂)
      (len : k + length r ≡ length s) (to : Exc s → Exc r) (from : Exc r → Exc s) where
    lift-joint : Joint r mr read₂ → Joint s (ms ++ move_up k mr) read₁
    lift-joint t = record { mab = ms ++ move_up k t.mab; reads = reads'; tree = tree' t.tree }
      where
        reads' : read₁ ≡ read (ms ++ move_up k t.mab) (map (up_error (length s)) eb)
        reads' = e ∙ ap (following ms [] k) t.reads
            ∙ (unfold following in
            (ap (read (ms ++ move_up k t.mab)) (up_errors-twice k (length r) eb ∙ ap (λ n. map (up_error n) eb) len)))

        tree' : ((Exc r → ⊥) × (t.mab ≡ mr ++ move_up (length r) mb)) ⊎ (Exc r × (weight t.mab ≡ weight mr + weight mb → ⊥))
            → ((Exc s → ⊥) × (ms ++ move_up k t.mab ≡ (ms ++ move_up k mr) ++ move_up (length s) mb)) ⊎
            (Exc s × (weight (ms ++ move_up k t.mab) ≡ weight (ms ++ move_up k mr) + weight mb → ⊥))
        tree' (inl (not-exc, q)) = inl (
          (λ x. not-exc (to x)),
          ap (λ z. ms ++ move_up k z) q
              ∙ ap (λ z. ms ++ z)
              (move_up-append k mr (move_up (length r) mb)
              ∙ ap (λ z. move_up k mr ++ z) (move_up-twice k (length r) mb ∙ ap (λ n. move_up n mb) len))
              ∙ sym (append_assoc ms (move_up k mr) (move_up (length s) mb)),
        )
        tree' (inr (x, differ)) =
            inr (
              from x,
              λ z. differ
                  (omega (
                    arith,
                    weight-append ms (move_up k t.mab),
                    weight-append ms (move_up k mr),
                    weight-up k t.mab,
                    weight-up k mr,
                  )),
            )

  -- the entry stays as it was
  module _ (n b : ℕ) (bs : List ℕ) (ma : List Mark) (w : Whole (b ∷ bs)) (t : Step sub n (b ∷ bs) ma) where
    gap-le : t.k ≤ length (b ∷ bs) → t.k + t.u ≤ length (b ∷ bs)
    gap-le le =
        omega (
          arith,
          length-drop t.k (b ∷ bs),
          gap_within sub law y f (drop t.k (b ∷ bs)) [] (whole_drop t.k (b ∷ bs) w) tt t.c t.gs t.u
              (ap skip_blank_block (append-nil (drop t.k (b ∷ bs))) ∙ t.gap),
        )

    gap-kept : t.k ≤ length (b ∷ bs) → skip_blank_block (drop t.k ((b ∷ bs) ++ y)) ≡ ok t.c t.gs t.u
    gap-kept le = ap skip_blank_block (drop_app t.k (b ∷ bs) y le)
        ∙ block_same fresh tt (drop t.k (b ∷ bs)) y (whole_drop t.k (b ∷ bs) w) (
          subst (λ u. u ≤ length (drop t.k (b ∷ bs)))
              (sym (used-of sub law y f (skip_blank_block (drop t.k (b ∷ bs))) t.c t.gs t.u t.gap))
              (omega (arith, length-drop t.k (b ∷ bs), gap-le le)),
          f,
        )
        ∙ t.gap

    -- whether what follows is named is as it was
    named-kept : (r : List ℕ) → Whole r → entries n sub r ≡ read t.mr [] → 0 < length r
        → is_named (get_entry sub (r ++ y)) ≡ is_named (get_entry sub r)
    unfolding entries
    named-kept [] v h l = absurd (not-suc-le-zero l)
    named-kept (c ∷ cs) v h l = go n h
      where
        go : (n : ℕ) → entries n sub (c ∷ cs) ≡ read t.mr [] → is_named (get_entry sub ((c ∷ cs) ++ y)) ≡ is_named (get_entry sub (c ∷ cs))
        go zero g = let z : ◌≡◌ {A = ℕ} 0 1 = cc in absurd (omega arith)
        go (suc n) g = by_case (eqb c 35)
            (λ q. hash-named sub c (cs ++ y) q ∙ sym (hash-named sub c cs q))
            (λ q. by (way sub law y f n c cs t.mr (step_of sub n c cs t.mr g) v) q)
          where
            by : Way sub law y f n (c ∷ cs) t.mr (step_of sub n c cs t.mr g) → eqb c 35 ≡ false
                → is_named (get_entry sub ((c ∷ cs) ++ y)) ≡ is_named (get_entry sub (c ∷ cs))
            by (kept e le ls z) q = ap is_named (e ∙ sym (step_of sub n c cs t.mr g).entry)
            by (ended l el k hash lev goes) q =
                let st = step_of sub n c cs t.mr g in
                absurd (other (named-entry sub c cs st.e st.ms st.k q st.entry) el)
              where
                other : ((step_of sub n c cs t.mr g).e ≡ message) ⊎ ((step_of sub n c cs t.mr g).e ≡ term)
                    → (step_of sub n c cs t.mr g).e ≡ comment l → ⊥
                other (inl z) x = let i : ◌≡◌ {A = ℕ} 0 1 = cc in omega arith
                other (inr z) x = let i : ◌≡◌ {A = ℕ} 0 1 = cc in omega arith

    kept-joint : get_entry sub ((b ∷ bs) ++ y) ≡ ok t.e t.ms t.k → t.k ≤ length (b ∷ bs)
        → (line_starts_at t.k (b ∷ bs) ≡ true) ⊎ (0 < t.u)
        → (t.k + t.u ≡ length (b ∷ bs) → (starts_with 35 (last_line (b ∷ bs)) ≡ true → ⊥)
        × ((v w : Bool) → kind_of_entry t.e (ltb t.c 2 && v) ≡ kind_of_entry t.e (ltb t.c 2 && w)))
        → Joint (drop (t.k + t.u) (b ∷ bs)) t.mr (entries (n + m) sub (drop (t.k + t.u) (b ∷ bs) ++ y))
        → Joint (b ∷ bs) ma (entries (suc n + m) sub ((b ∷ bs) ++ y))
    kept-joint en le ls last ih =
        subst (λ z. Joint (b ∷ bs) z (entries (suc n + m) sub ((b ∷ bs) ++ y))) t.marks
        (lift-joint (b ∷ bs) r (node (kind_of_entry t.e (ltb t.c 2 && is_named (get_entry sub r))) t.ms) t.mr j
        (entries (suc n + m) sub ((b ∷ bs) ++ y)) (entries (n + m) sub (r ++ y))
        (ap (λ i. entries i sub ((b ∷ bs) ++ y)) (suc-add n m)
        ∙ entries_with sub (n + m) b (bs ++ y) t.e t.ms t.k t.c t.u t.gs (r ++ y) en (gap-kept le)
        (drop_app j (b ∷ bs) y (gap-le le))
        ∙ ap (λ i. following (node i t.ms) [] j (entries (n + m) sub (r ++ y))) kinds)
        (omega (arith, length-drop j (b ∷ bs), gap-le le)) to from ih)
      where
        j : ℕ
        j = t.k + t.u

        r : List ℕ
        r = drop (t.k + t.u) (b ∷ bs)

        kinds : kind_of_entry t.e (ltb t.c 2 && is_named (get_entry sub (r ++ y))) ≡ kind_of_entry t.e
            (ltb t.c 2 && is_named (get_entry sub r))
        kinds = by_case (ltb j (length (b ∷ bs)))
            (λ q. ap (λ v. kind_of_entry t.e (ltb t.c 2 && v))
            (named-kept r (whole_drop j (b ∷ bs) w) t.rest
            (rw length-drop (omega (arith, ltb-true j (length (b ∷ bs)) q)))))
            (λ q. (last (omega (arith, ltb-false j (length (b ∷ bs)) q, gap-le le))).1 (is_named (get_entry sub (r ++ y)))
            (is_named (get_entry sub r)))

        lands : line_starts_at j (b ∷ bs) ≡ true
        lands = by ls
          where
            block : line_starts_at t.u (drop t.k (b ∷ bs)) ≡ true
            block = subst (Holds (λ a ms k. line_starts_at k (drop t.k (b ∷ bs)) ≡ true)) t.gap (block-lands (drop t.k (b ∷ bs)))

            by : (line_starts_at t.k (b ∷ bs) ≡ true) ⊎ (0 < t.u) → line_starts_at j (b ∷ bs) ≡ true
            by (inl h) = starts-add t.k t.u (b ∷ bs) h block
            by (inr h) = starts-later t.k t.u (b ∷ bs) h block

        same : 0 < length r → last_line (b ∷ bs) ≡ last_line r
        same h = last_line-drop j (b ∷ bs) lands (whole_drop j (b ∷ bs) w) h

        to : Exc (b ∷ bs) → Exc r
        to x = by_case (ltb j (length (b ∷ bs)))
            (λ q. subst (λ z. (starts_with 35 z ≡ true) × Joins (hashes z) (get_entry sub y))
            (same (rw length-drop (omega (arith, ltb-true j (length (b ∷ bs)) q)))) x)
            (λ q. absurd ((last (omega (arith, ltb-false j (length (b ∷ bs)) q, gap-le le))).0 x.0))

        from : Exc r → Exc (b ∷ bs)
        from x = by_case (ltb j (length (b ∷ bs)))
            (λ q. subst (λ z. (starts_with 35 z ≡ true) × Joins (hashes z) (get_entry sub y))
            (sym (same (rw length-drop (omega (arith, ltb-true j (length (b ∷ bs)) q))))) x)
            (λ q. absurd (no-exc (subst Exc (drop_of_length-le (b ∷ bs) (ltb-false j (length (b ∷ bs)) q)) x)))

    -- the entry was a comment that used up the source
    module _ (l : ℕ) (el : t.e ≡ comment l) (ek : t.k ≡ length (b ∷ bs))
        (hash : starts_with 35 (last_line (b ∷ bs)) ≡ true) (lev : hashes (last_line (b ∷ bs)) ≡ l)
        (h : entries (suc n) sub (b ∷ bs) ≡ read ma []) where
      none_left : drop t.k (b ∷ bs) ≡ []
      none_left = drop_of_length-le (b ∷ bs) {i = t.k} (omega arith)

      no-rest : drop (t.k + t.u) (b ∷ bs) ≡ []
      no-rest = drop_of_length-le (b ∷ bs) {i = t.k + t.u} (omega arith)

      no-marks : t.mr ≡ []
      unfolding entries
      no-marks = go n (ap (entries n sub) (sym no-rest) ∙ t.rest)
        where
          go : (i : ℕ) → entries i sub [] ≡ read t.mr [] → t.mr ≡ []
          go zero e = let z : ◌≡◌ {A = ℕ} 0 1 = cc in absurd (omega arith)
          go (suc i) e = cc

      free : (v : Bool) → v ≡ false → kind_of_entry (comment l) v ≡ 2 + l
      unfolding kind_of_entry
      free v q = rw (q, kind_of_entry) (rw (and-false (eqb l 1)) refl)

      marks-of : ma ≡ node (2 + l) t.ms
      unfolding move_up
      marks-of = sym t.marks
          ∙ ap
          (λ z. node (kind_of_entry t.e (ltb t.c 2 && is_named (get_entry sub (drop (t.k + t.u) (b ∷ bs))))) t.ms
          ++ move_up (t.k + t.u) z) no-marks
          ∙ append-nil
          (node (kind_of_entry t.e (ltb t.c 2 && is_named (get_entry sub (drop (t.k + t.u) (b ∷ bs))))) t.ms)
          ∙ ap (λ z. node z t.ms) (ap (λ z. kind_of_entry z (ltb t.c 2 && is_named (get_entry sub (drop (t.k + t.u) (b ∷ bs))))) el
          ∙ free (ltb t.c 2 && is_named (get_entry sub (drop (t.k + t.u) (b ∷ bs))))
          (ap (λ z. ltb t.c 2 && is_named (get_entry sub z)) no-rest ∙ ap (λ z. ltb t.c 2 && z) (nil-named sub)
          ∙ and-false (ltb t.c 2)))

      pos : 0 < l
      pos = omega (arith, hash-pos (last_line (b ∷ bs)) hash)

      -- what follows is read from where it starts
      past : (i : ℕ) → drop (t.k + i) ((b ∷ bs) ++ y) ≡ drop i y
      past i = sym (drop-drop i t.k ((b ∷ bs) ++ y))
          ∙ ap (drop i) (drop_app t.k (b ∷ bs) y (omega arith) ∙ ap (λ z. z ++ y) none_left)

      -- and a comment of the level l with the marks of before, of the kind i, before it
      record Apart : Type 0 where
        kind : ℕ
        eq : entries (suc n + m) sub ((b ∷ bs) ++ y) ≡ following (node kind t.ms) [] (length (b ∷ bs)) (entries (n + m) sub y)
        tells : ((Exc (b ∷ bs) → ⊥) × (kind ≡ 2 + l)) ⊎ (Exc (b ∷ bs) × (kind ≡ 5 + l))

      apart-joint : Apart → Joint (b ∷ bs) ma (entries (suc n + m) sub ((b ∷ bs) ++ y))
      apart-joint a = record {
        mab = node a.kind t.ms ++ move_up (length (b ∷ bs)) mb;
        reads = a.eq
            ∙ ap (following (node a.kind t.ms) [] (length (b ∷ bs)))
            (entries-more sub m (n + m) y mb eb (omega arith) read_b)
            ∙ (unfold following in refl);
        tree = by a.tells;
      }
        where
          by : ((Exc (b ∷ bs) → ⊥) × (a.kind ≡ 2 + l)) ⊎ (Exc (b ∷ bs) × (a.kind ≡ 5 + l))
              → ((Exc (b ∷ bs) → ⊥)
              × (node a.kind t.ms ++ move_up (length (b ∷ bs)) mb ≡ ma ++ move_up (length (b ∷ bs)) mb)) ⊎
              (Exc (b ∷ bs)
              × (weight (node a.kind t.ms ++ move_up (length (b ∷ bs)) mb) ≡ weight ma + weight mb → ⊥))
          by (inl (x, e)) = inl (x, ap (λ z. z ++ move_up (length (b ∷ bs)) mb) (ap (λ i. node i t.ms) e ∙ sym marks-of))
          by (inr (x, e)) =
              inr (
                x,
                λ z. omega (
                  arith,
                  weight-append (node a.kind t.ms) (move_up (length (b ∷ bs)) mb),
                  weight-up (length (b ∷ bs)) mb,
                  weight-node a.kind t.ms,
                  weight-node (2 + l) t.ms,
                  ap weight marks-of,
                ),
              )

      entry_at : (i : ℕ) (ns : List Mark) → get_comment ((b ∷ bs) ++ y) ≡ ok l ns i → eqb b 35 ≡ true
          → get_entry sub ((b ∷ bs) ++ y) ≡ ok (comment l) ns i
      unfolding as_comment
      entry_at i ns o q = entry-comment sub b (bs ++ y) q ∙ ap as_comment o

      -- the cut is before the end of all
      nil_end : y ≡ [] → Joint (b ∷ bs) ma (entries (suc n + m) sub ((b ∷ bs) ++ y))
      unfolding Joins move_up
      nil_end z = record {
        mab = ma;
        reads = ap (λ r. entries (suc n + m) sub ((b ∷ bs) ++ r)) z ∙ ap (entries (suc n + m) sub) (append-nil (b ∷ bs))
            ∙ entries-more sub (suc n) (suc n + m) (b ∷ bs) ma [] (omega arith) h
            ∙ ap (λ r. read ma (map (up_error (length (b ∷ bs))) r)) (sym nothing.1);
        tree = inl (no_join, sym (ap (λ r. ma ++ move_up (length (b ∷ bs)) r) nothing.0 ∙ append-nil ma));
      }
        where
          nothing : (mb ≡ []) × (eb ≡ [])
          nothing = go m (ap (entries m sub) (sym z) ∙ read_b)
            where
              go : (i : ℕ) → entries i sub [] ≡ read mb eb → (mb ≡ []) × (eb ≡ [])
              go zero e = absurd (unfold entries in (refuse e))
                where
                  refuse : refused 0 ≡ read mb eb → ⊥
                  refuse x = let i : ◌≡◌ {A = ℕ} 0 1 = cc in omega arith
              go (suc i) e = unfold entries in (split e)
                where
                  split : read [] [] ≡ read mb eb → (mb ≡ []) × (eb ≡ [])
                  split x = (cc, cc)

          no_join : Exc (b ∷ bs) → ⊥
          no_join x = let (g, k, e) = nil-entry sub in subst (Joins (hashes (last_line (b ∷ bs)))) (ap (get_entry sub) z ∙ e) x.1

      first-hash : eqb b 35 ≡ true
      first-hash = by_case (eqb b 35) (λ q. q) (λ q. absurd (other (named-entry sub b bs t.e t.ms t.k q t.entry)))
        where
          other : (t.e ≡ message) ⊎ (t.e ≡ term) → ⊥
          other (inl z) = let i : ◌≡◌ {A = ℕ} 0 1 = cc in omega arith
          other (inr z) = let i : ◌≡◌ {A = ℕ} 0 1 = cc in omega arith

      -- something that is no comment follows
      plain_end : (c : ℕ) (cs : List ℕ) → y ≡ c ∷ cs → eqb c 35 ≡ false → get_comment ((b ∷ bs) ++ y) ≡ ok l t.ms (t.k - 1) → Apart
      plain_end c cs z q o = record {
        kind = kind_of_entry (comment l) (ltb 1 2 && is_named (get_entry sub y));
        eq = ap (λ i. entries i sub ((b ∷ bs) ++ y)) (suc-add n m)
            ∙ entries_with sub (n + m) b (bs ++ y) (comment l) t.ms (t.k - 1) 1 1 [] y
            (entry_at (t.k - 1) t.ms o first-hash) gap rest
            ∙ ap
            (λ i. following (node (kind_of_entry (comment l) (ltb 1 2 && is_named (get_entry sub y))) t.ms) [] i
            (entries (n + m) sub y)) whole;
        tells = tells;
      }
        where
          short : t.k - 1 ≡ length bs
          short = omega arith

          whole : t.k - 1 + 1 ≡ length (b ∷ bs)
          whole = omega arith

          gap : skip_blank_block (drop (t.k - 1) ((b ∷ bs) ++ y)) ≡ ok 1 [] 1
          gap = ap (λ i. skip_blank_block (drop i ((b ∷ bs) ++ y))) short
              ∙ ap skip_blank_block (drop_app (length bs) (b ∷ bs) y (omega arith) ∙ ap (λ r. r ++ y) (whole-last b bs w))
              ∙ block_one y f

          rest : drop (t.k - 1 + 1) ((b ∷ bs) ++ y) ≡ y
          rest = ap (λ i. drop i ((b ∷ bs) ++ y)) (whole ∙ sym ek ∙ sym (add-zero t.k)) ∙ past 0

          tells : ((Exc (b ∷ bs) → ⊥) × (kind_of_entry (comment l) (ltb 1 2 && is_named (get_entry sub y)) ≡ 2 + l)) ⊎
              (Exc (b ∷ bs) × (kind_of_entry (comment l) (ltb 1 2 && is_named (get_entry sub y)) ≡ 5 + l))
          tells = unfold kind_of_entry in (by_case (is_named (get_entry sub y))
              (λ v. by_case (eqb l 1)
              (λ u. inr (
                (
                  hash,
                  subst (λ i. Joins i (get_entry sub y)) (sym (lev ∙ eqb-true l 1 u))
                      (subst (λ r. Joins 1 (get_entry sub r)) (sym z)
                      (named-joins sub c cs (ap (λ r. is_named (get_entry sub r)) (sym z) ∙ v))),
                ),
                rw v (rw (u, kind_of_entry) (omega (arith, eqb-true l 1 u))),
              ))
              (λ u. inl (
                (λ x. eqb-false l 1 u
                    (sym lev
                    ∙ (joins-named sub c cs (hashes (last_line (b ∷ bs))) q
                    (subst (λ r. Joins (hashes (last_line (b ∷ bs))) (get_entry sub r)) z x.1)).1)),
                rw v (rw (u, kind_of_entry) refl),
              )))
              (λ v. inl (
                (λ x. clash
                    (joins-named sub c cs (hashes (last_line (b ∷ bs))) q
                    (subst (λ r. Joins (hashes (last_line (b ∷ bs))) (get_entry sub r)) z x.1)).0
                    (ap (λ r. is_named (get_entry sub r)) (sym z) ∙ v)),
                rw v (rw (and-false (eqb l 1), kind_of_entry) refl),
              )))

      -- a comment of another level, or none that can be read, follows
      other-end : (c : ℕ) (cs : List ℕ) → y ≡ c ∷ cs → eqb c 35 ≡ true → (i : ℕ)
          → get_comment ((b ∷ bs) ++ y) ≡ after t.ms t.k (loop i comment_turn l y)
          → loop i comment_turn l y ≡ ok l [] 0
          → ((ms : List Mark) (k : ℕ) → get_comment y ≡ ok l ms k → ⊥) → Apart
      unfolding after move_up
      other-end c cs z q i o lp differs = record {
        kind = kind_of_entry (comment l) (ltb 0 2 && is_named (get_entry sub y));
        eq = ap (λ i. entries i sub ((b ∷ bs) ++ y)) (suc-add n m)
            ∙ entries_with sub (n + m) b (bs ++ y) (comment l) t.ms t.k 0 0 [] y
            (entry_at t.k t.ms
            (o ∙ ap (after t.ms t.k) lp
            ∙ ap₂ (λ a j. ok l a j) (append-nil t.ms) (add-zero t.k)) first-hash) gap
            (past 0)
            ∙ ap
            (λ i. following (node (kind_of_entry (comment l) (ltb 0 2 && is_named (get_entry sub y))) t.ms) [] i
            (entries (n + m) sub y))
            (add-zero t.k ∙ ek);
        tells = inl (no_join, free (ltb 0 2 && is_named (get_entry sub y)) (ap (λ r. is_named (get_entry sub r)) z ∙ hash-named sub c cs q));
      }
        where
          gap : skip_blank_block (drop t.k ((b ∷ bs) ++ y)) ≡ ok 0 [] 0
          gap = ap skip_blank_block (ap (λ i. drop i ((b ∷ bs) ++ y)) (sym (add-zero t.k)) ∙ past 0) ∙ block-fresh y f

          no_join : Exc (b ∷ bs) → ⊥
          no_join x =
              let (ns, k, e) =
              joins-comment (hashes (last_line (b ∷ bs))) (get_comment y)
              (subst (Joins (hashes (last_line (b ∷ bs))))
              (ap (get_entry sub) z ∙ entry-comment sub c cs q ∙ ap (λ r. as_comment (get_comment r)) (sym z))
              x.1) in
              differs ns k (e ∙ ap (λ a. ok a ns k) lev)

      -- a comment of the same level follows
      own-end : (c : ℕ) (cs : List ℕ) → y ≡ c ∷ cs → eqb c 35 ≡ true → (i : ℕ)
          → get_comment ((b ∷ bs) ++ y) ≡ after t.ms t.k (loop i comment_turn l y) → (ns : List Mark) (j : ℕ)
          → loop i comment_turn l y ≡ ok l ns j → get_comment y ≡ ok l ns j
          → Joint (b ∷ bs) ma (entries (suc n + m) sub ((b ∷ bs) ++ y))
      unfolding after
      own-end c cs z q i o ns j lp gc = go m (ap (entries m sub) (sym z) ∙ read_b) (omega arith)
        where
          entry-y : get_entry sub (c ∷ cs) ≡ ok (comment l) ns j
          entry-y = entry-comment sub c cs q ∙ ap as_comment (ap get_comment (sym z) ∙ gc) ∙ (unfold as_comment in refl)

          go : (m' : ℕ) → entries m' sub (c ∷ cs) ≡ read mb eb → m' ≤ m → Joint (b ∷ bs) ma (entries (suc n + m) sub ((b ∷ bs) ++ y))
          go zero e le = absurd (unfold entries in (refuse e))
            where
              refuse : refused 0 ≡ read mb eb → ⊥
              refuse x = let i : ◌≡◌ {A = ℕ} 0 1 = cc in omega arith
          go (suc m') e le =
              let (g, gs, u, gap) = sure-ok (skip_blank_block (drop j (c ∷ cs))) (block-sure (drop j (c ∷ cs))) in
              inner g gs u gap
              (following-read
              (node (kind_of_entry (comment l) (ltb g 2 && is_named (get_entry sub (drop (j + u) (c ∷ cs))))) ns)
              (j + u) (entries m' sub (drop (j + u) (c ∷ cs))) mb eb
              (sym (entries_with sub m' c cs (comment l) ns j g u gs (drop (j + u) (c ∷ cs)) entry-y gap refl) ∙ e))
            where
              inner : (g : ℕ) (gs : List Mark) (u : ℕ) → skip_blank_block (drop j (c ∷ cs)) ≡ ok g gs u
                  → (ms' : List Mark) × (es' : List Error) × (entries m' sub (drop (j + u) (c ∷ cs)) ≡ read ms' es')
                  × (node (kind_of_entry (comment l) (ltb g 2 && is_named (get_entry sub (drop (j + u) (c ∷ cs))))) ns
                  ++ move_up (j + u) ms' ≡ mb)
                  × (map (up_error (j + u)) es' ≡ eb)
                  → Joint (b ∷ bs) ma (entries (suc n + m) sub ((b ∷ bs) ++ y))
              inner g gs u gap (ms', es', r, me, ee) = record {
                mab = node K (t.ms ++ move_up t.k ns) ++ move_up (t.k + j + u) ms';
                reads = ap (λ i. entries i sub ((b ∷ bs) ++ y)) (suc-add n m)
                    ∙ entries_with sub (n + m) b (bs ++ y) (comment l) (t.ms ++ move_up t.k ns) (t.k + j) g u gs
                    (drop (j + u) (c ∷ cs))
                    (entry_at (t.k + j) (t.ms ++ move_up t.k ns) (o ∙ ap (after t.ms t.k) lp) first-hash)
                    (ap skip_blank_block (past j ∙ ap (drop j) z) ∙ gap)
                    (ap (λ i. drop i ((b ∷ bs) ++ y)) (add_assoc t.k j u) ∙ past (j + u) ∙ ap (drop (j + u)) z)
                    ∙ ap (following (node K (t.ms ++ move_up t.k ns)) [] (t.k + j + u))
                    (entries-more sub m' (n + m) (drop (j + u) (c ∷ cs)) ms' es' (omega arith) r)
                    ∙ reading;
                tree = inr ((hash, subst (Joins (hashes (last_line (b ∷ bs)))) (sym (ap (get_entry sub) z ∙ entry-y)) joined), differ);
              }
                where
                  K : ℕ
                  K = kind_of_entry (comment l) (ltb g 2 && is_named (get_entry sub (drop (j + u) (c ∷ cs))))

                  reading : following (node K (t.ms ++ move_up t.k ns)) [] (t.k + j + u) (read ms' es') ≡ read
                      (node K (t.ms ++ move_up t.k ns) ++ move_up (t.k + j + u) ms')
                      (map (up_error (length (b ∷ bs))) eb)
                  reading = unfold following in (ap (read (node K (t.ms ++ move_up t.k ns) ++ move_up (t.k + j + u) ms'))
                      (ap (λ i. map (up_error i) es') (add_assoc t.k j u) ∙ sym (up_errors-twice t.k (j + u) es')
                      ∙ ap (map (up_error t.k)) ee ∙ ap (λ i. map (up_error i) eb) ek))

                  joined : Joins (hashes (last_line (b ∷ bs))) (ok (comment l) ns j)
                  joined = unfold Joins in (sym lev)

                  differ : weight (node K (t.ms ++ move_up t.k ns) ++ move_up (t.k + j + u) ms') ≡ weight ma + weight mb → ⊥
                  differ x = omega (
                    arith,
                    weight-append (node K (t.ms ++ move_up t.k ns)) (move_up (t.k + j + u) ms'),
                    weight-up (t.k + j + u) ms',
                    weight-node K (t.ms ++ move_up t.k ns),
                    weight-append t.ms (move_up t.k ns),
                    weight-up t.k ns,
                    ap weight marks-of,
                    weight-node (2 + l) t.ms,
                    ap weight me,
                    weight-append (node K ns) (move_up (j + u) ms'),
                    weight-up (j + u) ms',
                    weight-node K ns,
                  )

      ended-joint : Goes y l t.ms t.k (get_comment ((b ∷ bs) ++ y)) → Joint (b ∷ bs) ma (entries (suc n + m) sub ((b ∷ bs) ++ y))
      ended-joint go = by y refl go
        where
          not-deep-y : (c : ℕ) (cs : List ℕ) → y ≡ c ∷ cs → eqb c 35 ≡ true → (k : ℕ) → get_comment (c ∷ cs) ≡ deep k → ⊥
          not-deep-y c cs z q k e = fuel m (ap (entries m sub) (sym z) ∙ read_b)
            where
              fuel : (i : ℕ) → entries i sub (c ∷ cs) ≡ read mb eb → ⊥
              fuel zero x = unfold entries in (refuse x)
                where
                  refuse : refused 0 ≡ read mb eb → ⊥
                  refuse r = let i : ◌≡◌ {A = ℕ} 0 1 = cc in omega arith
              fuel (suc i) x = not-deep sub i c cs mb eb k x (entry-comment sub c cs q ∙ ap as_comment e ∙ (unfold as_comment in refl))

          hashed : (c : ℕ) (cs : List ℕ) → y ≡ c ∷ cs → eqb c 35 ≡ true → (i : ℕ) → length (c ∷ cs) < i
              → get_comment ((b ∷ bs) ++ y) ≡ after t.ms t.k (loop i comment_turn l (c ∷ cs))
              → Own l (c ∷ cs) ⊎ Other l (c ∷ cs) → Joint (b ∷ bs) ma (entries (suc n + m) sub ((b ∷ bs) ++ y))
          hashed c cs z q i h o (inl (ns, j, gc, lp)) =
              own-end c cs z q i (o ∙ ap (λ r. after t.ms t.k (loop i comment_turn l r)) (sym z)) ns j
              (ap (loop i comment_turn l) z ∙ lp i h) (ap get_comment z ∙ gc)
          hashed c cs z q i h o (inr (differs, lp)) =
              apart-joint
              (other-end c cs z q i (o ∙ ap (λ r. after t.ms t.k (loop i comment_turn l r)) (sym z))
              (ap (loop i comment_turn l) z ∙ lp i h) (λ ms k e. differs ms k (ap get_comment (sym z) ∙ e)))

          by : (r : List ℕ) → y ≡ r → Goes r l t.ms t.k (get_comment ((b ∷ bs) ++ y))
              → Joint (b ∷ bs) ma (entries (suc n + m) sub ((b ∷ bs) ++ y))
          by [] z g = nil_end z
          by (c ∷ cs) z g = pick (eqb c 35) refl g
            where
              pick : (v : Bool) → eqb c 35 ≡ v → GoesBy v (c ∷ cs) l t.ms t.k (get_comment ((b ∷ bs) ++ y))
                  → Joint (b ∷ bs) ma (entries (suc n + m) sub ((b ∷ bs) ++ y))
              pick true q (i, h, o) = hashed c cs z q i h o (own-or-other l c cs pos q (not-deep-y c cs z q))
              pick false q o = apart-joint (plain_end c cs z q o)

  pub join : (n : ℕ) (s : List ℕ) (ma : List Mark) → Whole s → entries n sub s ≡ read ma [] → Joint s ma (entries (n + m) sub (s ++ y))
  join zero s ma w h = absurd (unfold entries in (refuse h))
    where
      refuse : refused 0 ≡ read ma [] → ⊥
      refuse r = let i : ◌≡◌ {A = ℕ} 0 1 = cc in omega arith
  join (suc n) [] ma w h = let e : [] ≡ ma = unfold entries in (none h) in
      subst (λ z. Joint [] z (entries (suc n + m) sub y)) e (nil-joint n)
    where
      none : read [] [] ≡ read ma [] → [] ≡ ma
      none x = cc
  join (suc n) (b ∷ bs) ma w h =
      by (way sub law y f n b bs ma (step_of sub n b bs ma h) w)
      (join n (drop ((step_of sub n b bs ma h).k + (step_of sub n b bs ma h).u) (b ∷ bs)) (step_of sub n b bs ma h).mr
      (whole_drop ((step_of sub n b bs ma h).k + (step_of sub n b bs ma h).u) (b ∷ bs) w) (step_of sub n b bs ma h).rest)
    where
      by : Way sub law y f n (b ∷ bs) ma (step_of sub n b bs ma h)
          → Joint (drop ((step_of sub n b bs ma h).k + (step_of sub n b bs ma h).u) (b ∷ bs))
          (step_of sub n b bs ma h).mr
          (entries (n + m) sub (drop ((step_of sub n b bs ma h).k + (step_of sub n b bs ma h).u) (b ∷ bs) ++ y))
          → Joint (b ∷ bs) ma (entries (suc n + m) sub ((b ∷ bs) ++ y))
      by (kept en le ls last) ih = kept-joint n b bs ma w (step_of sub n b bs ma h) en le ls last ih
      by (ended l el ek hash lev goes) ih = ended-joint n b bs ma w (step_of sub n b bs ma h) l el ek hash lev h goes
