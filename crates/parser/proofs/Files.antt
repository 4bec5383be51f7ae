-- A file, entry by entry: what is held at an entry gives what is held at the next.
use Prim.Native.Nat.{ℕ, suc, ◌+◌, ◌-◌, ◌*◌, ◌≤◌, ◌<◌}
use native.Mathlib.Nat.{add-zero, zero-add, add_assoc}
use native.Mathlib.Omega.{arith}
use mathlib.Core.Path.{◌≡◌, refl, sym, ap, ap₂, subst, ◌∙◌}
use mathlib.Core.List.{List, [], ◌∷◌, ◌++◌, append_assoc, append-nil, map}
use mathlib.Core.Bool.{Bool, true, false, ◌&&◌}
use lib.Dec.{eqb, ltb}
use lib.ListN.{length, get_or, drop, set, length-set, length-append, length-drop, length-map, drop_of_length-le}
use lib.Seq.{drop-cons, drop-drop}
use borrow.Author.Tests.{eqb-true, lt-ltb, le-ltb}
use Rattle.std.proofs.Common.{Ok, Err, Option, Some, None}
use denote.Ref.{Bor}
use Rattle.syntax.specs.Limits.{max_open}
use Rattle.syntax.specs.Kind.{closing}
use Rattle.syntax.specs.declared.errors.ParserError.{ParserError}
use Rattle.syntax.specs.Marks.{Mark, plain, move_up, node, text_node}
use Rattle.syntax.specs.Bytes.{starts_with, starts}
use Rattle.syntax.specs.Reader.{Out, ok, next, ◌>>=◌, fail}
use Rattle.syntax.specs.Helper.{skip_blank_block, get_identifier}
use Rattle.syntax.specs.Pattern.{Inside, used_by}
use Rattle.syntax.specs.Expression.{level}
use Rattle.syntax.specs.Core.{Entry, comment, fields, as_message, get_entry, line_starts_at, junk_end, Error}
use Rattle.syntax.specs.Core.{up_error, read, refused, following, is_named, count, kind_of_entry, entries, parse}
use Rattle.syntax.specs.Reading.{marks_of, errors_of}
use Rattle.laws.specs.Bytes.{by_case}
use Rattle.laws.specs.Bounds.{Uses, ok-uses, bad-within}
use Rattle.laws.specs.Bounds.Entry.{entry-bounds}
use Rattle.laws.specs.Bounds.Pattern.{block-le}
use Rattle.laws.specs.Bounds.Expression.{level-bounds}
use Rattle.laws.specs.File.{First, entry, junk, near, first-uses, entries-first, entries_far, entries-fuel}
use Rattle.laws.specs.Lines.{starts-add}
use Rattle.laws.specs.Lines.Lands.{block-starts}
use Rattle.laws.specs.Lines.Starts.{first-stays}
use Rattle.laws.specs.Moving.{move_up-append, move_up-length, move_up-nil, following-twice}
use Rattle.entry.specs.Tree.{Word, word, words_at, marks_in, Step, Fits}
use Rattle.parser.specs.ErrorList.{ErrorStep, with_junk}
use Rattle.entry.specs.Border.{Skipped}
use Rattle.entry.specs.Level.{number}
use Rattle.entry.specs.Entry.{entry_of}
use Rattle.entry.specs.declared.parser_core.Entry.{Entry as CodeEntry}
use Rattle.entry.specs.declared.parser_core.Entry.TheVariants.{Message, Term, Comment}
use Rattle.entry.specs.declared.border.BlankBlock.{BlankBlock}
use Rattle.parser.specs.Call.{Sized, DidParse}
use Rattle.parser.specs.Resource.{regular, kept, Attachable, attached, past, Closed, EntryClosed, junk_till, Junked, Open, Pending, Held, Framed}
use Rattle.parser.specs.declared.resource.Resource.{Resource}
use Rattle.parser.proofs.Seeks.{starts-later}
use Rattle.entry.proofs.Steps.{step-none, step_cut, step_then}
use Rattle.parser.proofs.Changed.{step-kind}
use Rattle.entry.proofs.Dids.{Lost, Far, words_up, words_append, words-length, words-none, text-placed, node-words, step-failed}
use Rattle.parser.proofs.Rows.{rows_then, rows_none, rows_cut, rows_self}
use Rattle.parser.proofs.Got.{Got}

abbrev top : Inside
top = level max_open

-- ---- past the blank lines after an entry

module _ (x : Resource) {b : BlankBlock} (w : Skipped x.source.now x.at b) where
  pub past-kept : b.count < 2 → record x { at = b.end } ≡ past x
  unfolding kept
  past-kept h = rw (← w.count, kept, lt-ltb b.count 2 h, ← w.end) refl

  pub past-lost : 2 ≤ b.count → record x { at = b.end; comment = None } ≡ past x
  unfolding kept
  past-lost h = rw (← w.count, kept, le-ltb b.count 2 h, ← w.end) refl

-- past the blank lines after what ends at k
record Moved (s : List ℕ) (k n e : ℕ) (c : Option ℕ) (r : Resource) : Type 0 where
  pub at : r.at ≡ k + used_by (skip_blank_block (drop k s))
  pub marks : r.marks ≡ n
  pub error_count : r.error_count ≡ e
  pub comment : r.comment ≡ kept c (count (skip_blank_block (drop k s)))

moved : (s : List ℕ) (y : Resource) (k n e : ℕ) (c : Option ℕ) → y.source.now ≡ s → y.at ≡ k → y.marks ≡ n → y.error_count ≡ e
    → y.comment ≡ c → Moved s k n e c (past y)
moved s y k n e c q a m d o = rw (q, a, m, d, o) (record { at = refl; marks = refl; error_count = refl; comment = refl })

-- ---- steps whose start does not matter

self-step : {cap n : ℕ} {t t₁ : List ℕ} {ws : List Word} → Step cap n t t₁ ws → Step cap n t₁ t₁ ws
self-step {cap} {n} {t} {t₁} {ws} s =
    let c : marks_in cap n t₁ ≡ marks_in cap n t = rw (add-zero, append-nil) at (step_cut s).marks in
    record { long = refl; marks = s.marks ∙ ap (λ (l : List Word). l ++ ws) (sym c); head = refl; rest = refl }

-- ---- the marks of an entry

-- it gets its kind and is closed
entry_closed : {cap : ℕ} {t T : List ℕ} (at n m κ : ℕ) (M ms : List Mark) {t₃ : List ℕ}
    → Step cap 0 t T (words_at 0 M ++ (word 1 0 ∷ words_at at ms)) → n ≡ length M → m ≡ n + 1 + length ms → n < cap
    → n + 2 < length T
    → Step cap m (set T (n + 2) κ) t₃ (word (closing κ) 0 ∷ []) → Step cap 0 t t₃ (words_at 0 (M ++ move_up at (node κ ms)))
entry_closed {cap} {t} at n m κ M ms {t₃} S e f l g z =
    let a = step-kind n 1 κ 0 (words_at 0 M) (words_at at ms) S (omega (arith, words-length 0 M)) l g in
    let size : m ≡ 0 + length (words_at 0 M ++ (word κ 0 ∷ words_at at ms)) =
    omega (arith, words-length 0 M, words-length at ms, length-append (words_at 0 M) (word κ 0 ∷ words_at at ms)) in
    rw (words_append, words_up, zero-add, node-words)
    (subst (Step cap 0 t t₃) (append_assoc (words_at 0 M) (word κ 0 ∷ words_at at ms) (word (closing κ) 0 ∷ []))
    (step_then a size z))

node-length : (κ : ℕ) (ms : List Mark) → length (node κ ms) ≡ length ms + 2
unfolding node
node-length κ ms = omega (arith, length-append ms (plain (closing κ) ∷ []))

-- ---- the last comment

regroup : (B C ws : List Word) (u w : Word) → B ++ (u ∷ ((C ++ (w ∷ [])) ++ ws)) ≡ (B ++ (u ∷ C)) ++ (w ∷ ws)
regroup B C ws u w = simp append_assoc

module _ {i : ℕ} {marks : Bool → List Mark} (o : Open i marks) where
  open-length : (b : Bool) → length (marks b) ≡ i + length o.inner + 2
  open-length b = ap length (o.is b)
      ∙ omega (
        arith,
        o.opens,
        length-append o.before (node (kind_of_entry (comment 1) b) o.inner),
        node-length (kind_of_entry (comment 1) b) o.inner,
      )

  open-words : (b : Bool) (ws : List Word)
      → words_at 0 (marks b) ++ ws ≡ words_at 0 o.before
      ++ (word (kind_of_entry (comment 1) b) 0
      ∷ ((words_at 0 o.inner ++ (word (closing (kind_of_entry (comment 1) b)) 0 ∷ [])) ++ ws))
  open-words b ws =
      ap (λ (m : List Mark). words_at 0 m ++ ws) (o.is b)
      ∙ ap (λ (v : List Word). v ++ ws)
      (words_append 0 o.before _
      ∙ ap (λ (v : List Word). words_at 0 o.before ++ v) (node-words 0 (kind_of_entry (comment 1) b) o.inner))
      ∙ append_assoc (words_at 0 o.before) _ ws

pending-length : (c : Option ℕ) (marks : Bool → List Mark) → Pending c marks → length (marks true) ≡ length (marks false)
pending-length None marks p = ap length p
pending-length (Some i) marks p = open-length p true ∙ sym (open-length p false)

pending-attachable : (t : List ℕ) (c : Option ℕ) (marks : Bool → List Mark) (n : ℕ) → Pending c marks
    → n ≡ length (marks false) → n + 1 < length t → Attachable t c n
pending-attachable t None marks n p e l = tt
pending-attachable t (Some i) marks n p e l = (omega (arith, open-length p false), l)

-- it is attached: all that follows it stays
comment-attached : {cap : ℕ} {t T : List ℕ} (marks : Bool → List Mark) (ws : List Word) (n : ℕ) (c : Option ℕ)
    → Pending c marks → Step cap 0 t T (words_at 0 (marks false) ++ ws) → n ≡ length (marks false) → n ≤ cap
    → n + 1 < length T
    → Step cap 0 t (attached c n T) (words_at 0 (marks true) ++ ws)
unfolding kind_of_entry
comment-attached marks ws n None p S e l g = rw p S
comment-attached {cap} {t} {T} marks ws n (Some i) p S e l g =
    let B = words_at 0 p.before in
    let C = words_at 0 p.inner in
    let size = open-length p false in
    let opens : i ≡ 0 + length B = omega (arith, p.opens, words-length 0 p.before) in
    let closes : n - 1 ≡ 0 + length (B ++ (word 6 0 ∷ C)) =
    omega
    (arith, p.opens, words-length 0 p.before, words-length 0 p.inner, length-append B (word 6 0 ∷ C)) in
    let a : Step cap 0 t T (B ++ (word 3 0 ∷ ((C ++ (word 103 0 ∷ [])) ++ ws))) = subst (Step cap 0 t T) (open-words p false ws) S in
    let b : Step cap 0 t (set T (i + 2) 6) ((B ++ (word 6 0 ∷ C)) ++ (word 103 0 ∷ ws)) =
    subst (Step cap 0 t (set T (i + 2) 6)) (regroup B C ws (word 6 0) (word 103 0))
    (step-kind i 3 6 0 B ((C ++ (word 103 0 ∷ [])) ++ ws) a opens (omega arith) (omega arith)) in
    let d = step-kind (n - 1) 103 106 0 (B ++ (word 6 0 ∷ C)) ws b closes (omega arith) (omega (arith, length-set T (i + 2) 6)) in
    subst (Step cap 0 t (attached (Some i) n T)) (sym (open-words p true ws ∙ regroup B C ws (word 6 0) (word 106 0))) d

kept_near : (x : Option ℕ) (c : ℕ) → ltb c 2 ≡ true → kept x c ≡ x
unfolding kept
kept_near x c q = rw (q, kept)

kept-far : (x : Option ℕ) (c : ℕ) → ltb c 2 ≡ false → kept x c ≡ None
unfolding kept
kept-far x c q = rw (q, kept)

kept-none : (c : ℕ) → kept None c ≡ None
kept-none c = by_case (ltb c 2) (kept_near None c) (kept-far None c)

regular-one : (l n : ℕ) → eqb l 1 ≡ true → regular l n ≡ Some n
unfolding regular
regular-one l n q = rw (q, regular)

regular-other : (l n : ℕ) → eqb l 1 ≡ false → regular l n ≡ None
unfolding regular
regular-other l n q = rw (q, regular)

kind-other : (l : ℕ) (b : Bool) → eqb l 1 ≡ false → kind_of_entry (comment l) b ≡ 2 + l
unfolding kind_of_entry
kind-other l b q = rw (q, kind_of_entry)

-- a comment stays free; v says whether fewer than two line ends follow
kind-free : (l : ℕ) (v : Bool) → kind_of_entry (comment l) (v && false) ≡ 2 + l
unfolding kind_of_entry
kind-free l v = go (eqb l 1) v
  where
    go : (a v : Bool) → ◌≡◌ {A = ℕ} (elim (a && (v && false)) [ true ↦ 6 | false ↦ 2 + l ]) (2 + l)
    go true true = refl
    go true false = refl
    go false v = refl

node-up : (at κ : ℕ) (ms : List Mark) → move_up at (node κ ms) ≡ node κ (move_up at ms)
unfolding move_up node
node-up at κ ms = ap (λ (r : List Mark). plain κ ∷ r) (move_up-append at ms (plain (closing κ) ∷ []))

abbrev with_comment : List Mark → ℕ → List Mark → ℕ → ℕ → Bool → List Mark
with_comment M at ms l c b = M ++ move_up at (node (kind_of_entry (comment l) (ltb c 2 && b)) ms)

module _ (M : List Mark) (at : ℕ) (ms : List Mark) (l c n : ℕ) (e : n ≡ length M) where
  comment-open : ltb c 2 ≡ true → l ≡ 1 → Open n (with_comment M at ms l c)
  comment-open q w =
      record {
        before = M;
        inner = move_up at ms;
        opens = e;
        is = λ b. rw (q, w) (ap (λ (r : List Mark). M ++ r) (node-up at (kind_of_entry (comment 1) b) ms));
      }

  comment-same : (v w : Bool) → kind_of_entry (comment l) v ≡ kind_of_entry (comment l) w
      → M ++ move_up at (node (kind_of_entry (comment l) v) ms) ≡ M ++ move_up at (node (kind_of_entry (comment l) w) ms)
  comment-same v w q = ap (λ (κ : ℕ). M ++ move_up at (node κ ms)) q

  comment-pending : Pending (kept (regular l n) c) (with_comment M at ms l c)
  comment-pending =
      by_case (ltb c 2)
      (λ q. by_case (eqb l 1) (λ w. rw (kept_near (regular l n) c q, regular-one l n w) (comment-open q (eqb-true l 1 w)))
      (λ w. rw (kept_near (regular l n) c q, regular-other l n w) (comment-same _ _ (kind-other l _ w ∙ sym (kind-other l _ w)))))
      (λ q. rw (kept-far (regular l n) c q) (comment-same _ _ (rw q)))

-- ---- the next entry

module _ {s : List ℕ} {x : Resource} (h : Held s x) (l : x.at < length s) where
  first_byte : drop x.at s ≡ get_or s x.at 0 ∷ drop (suc x.at) s
  first_byte = drop-cons s x.at 0 l

  module _ {ns : List Mark} {fs : List Error} {k : ℕ} (f : First top (drop x.at s) ns fs k) where
    first : First top (get_or s x.at 0 ∷ drop (suc x.at) s) ns fs k
    first = rw first_byte at f

    uses : Uses 4 (drop x.at s) ns k × (length fs ≤ 1)
    uses = rw first_byte (first-uses (level-bounds max_open) first)

    stays : k < length (drop x.at s) → line_starts_at k (drop x.at s) ≡ true
    stays = rw first_byte (first-stays (level-bounds max_open) first)

    entries-on : entries (suc (length s)) top (drop x.at s) ≡ following ns fs k (entries (suc (length s)) top (drop (x.at + k) s))
    entries-on =
        let u = uses.0 in
        let short : length (drop (x.at + k) s) < length s = omega (arith, u.room, length-drop (x.at + k) s) in
        rw first_byte (entries-first top (length s) first)
        ∙ ap (following ns fs k)
        (rw first_byte at (ap (entries (length s) top) (drop-drop k x.at s))
        ∙ entries-fuel (level-bounds max_open) (length s) (suc (length s)) (drop (x.at + k) s) short (omega arith))

    held_next : (y : Resource) (marks : Bool → List Mark) → y.at ≡ x.at + k
        → marks (is_named (get_entry top (drop y.at s))) ≡ h.marks (is_named (get_entry top (drop x.at s)))
        ++ move_up x.at ns
        → length (marks false) ≡ x.marks + length ns → y.marks ≡ x.marks + length ns
        → y.error_count ≡ x.error_count + length fs → Pending y.comment marks
        → Step (8 * length s) 0 x.tree.now y.tree.now (words_at 0 (marks false))
        → ErrorStep (length s) 0 x.errors.now y.errors.now (h.faults ++ map (up_error x.at) fs)
        → Framed s x.tree.now y.tree.now x.errors.now y.errors.now × Held s y × (x.at < y.at)
    held_next y marks a q w n c p S R =
        let (u, few) = uses in
        let i = u.within in
        let r = u.room in
        let v = length-drop x.at s in
        let z = h.sized in (
          record { tree = step_cut S; list = rows_cut R },
          record {
            sized = record { short = z.short; tree = omega (arith, z.tree, S.long); errors = omega (arith, z.errors, R.long) };
            inside = omega arith;
            starts = λ o. rw a (starts-add x.at k s (h.starts l) (stays (omega arith)));
            marks = marks;
            faults = h.faults ++ map (up_error x.at) fs;
            room = omega (arith, h.room);
            few = omega (arith, h.few);
            counted = omega arith;
            listed = omega (arith, h.listed, length-append h.faults (map (up_error x.at) fs), length-map fs (up_error x.at));
            tree = self-step S;
            list = rows_self R;
            pending = p;
            answer = h.answer
                ∙ ap (following (h.marks (is_named (get_entry top (drop x.at s)))) h.faults x.at) entries-on
                ∙ following-twice _ h.faults x.at ns fs k _ ∙ rw (q, a) refl;
          },
          omega arith,
        )

  -- what is as it was, but for the tree and the place
  pub record Since (z : Resource) : Type 0 where
    pub source : z.source.now ≡ s
    pub list : z.errors.now ≡ x.errors.now
    pub error_count : z.error_count ≡ x.error_count
    pub comment : z.comment ≡ x.comment

  -- an opening mark was put, and an entry y was read after it
  module _ {opened : ℕ} {t₁ : List ℕ} (o : opened ≡ x.marks + 1) (p : Step (8 * length s) x.marks x.tree.now t₁ (word 1 0 ∷ [])) where
    module _ {y : Entry} {t₂ : List ℕ} {end m : ℕ}
        (g : Got y (8 * length s) x.at opened end m t₁ t₂ (get_entry top (drop x.at s))) where
      within : Uses 6 (drop x.at s) g.ms g.k
      within = ok-uses (entry-bounds (level-bounds max_open)) (drop x.at s) g.is

      entry-inside : end ≤ length s
      entry-inside = omega (arith, within.within, g.place, length-drop x.at s)

      pub entry-room : (x.marks < m) × (m + 1 ≤ 8 * length s)
      entry-room = let r = within.room in let w = entry-inside in (omega (arith, g.count), omega (arith, g.count, g.place, h.room))

      pub entry-long : length t₂ ≡ length x.tree.now
      entry-long = g.wrote.long ∙ p.long

      spacious : 2 + 16 * length s ≤ length t₂
      spacious = omega (arith, entry-long, h.sized.tree)

      pub entry-attachable : Attachable t₂ x.comment x.marks
      entry-attachable = let (a, b) = entry-room in
          pending-attachable t₂ x.comment h.marks x.marks h.pending h.counted (omega (arith, spacious))

      pub entry-fits : Fits t₂ (8 * length s) m 1
      entry-fits = record { fits = entry-room.1; layout = omega (arith, spacious) }

      words : Step (8 * length s) 0 x.tree.now t₂ (words_at 0 (h.marks false) ++ (word 1 0 ∷ words_at x.at g.ms))
      words = step_then h.tree (omega (arith, h.counted, words-length 0 (h.marks false))) (step_then p o g.wrote)

      blocks : skip_blank_block (drop g.k (drop x.at s)) ≡ skip_blank_block (drop end s)
      blocks = ap skip_blank_block (drop-drop g.k x.at s ∙ ap (λ (i : ℕ). drop i s) (sym g.place))

      module _ {c : Option ℕ} {r : Resource} (v : Moved s end (m + 1) x.error_count c r) (d : r.errors.now ≡ x.errors.now) where
        place : r.at ≡ x.at + (g.k + used_by (skip_blank_block (drop g.k (drop x.at s))))
        place = omega (arith, v.at, ap used_by blocks, g.place)

        held-named : (κ : ℕ) → c ≡ None → is_named (ok y g.ms g.k) ≡ true
            → ((b : Bool) → kind_of_entry y b ≡ κ)
            → Step (8 * length s) m (set (attached x.comment x.marks t₂) (x.marks + 2) κ) r.tree.now
            (word (closing κ) 0 ∷ [])
            → Framed s x.tree.now r.tree.now x.errors.now r.errors.now × Held s r × (x.at < r.at)
        held-named κ n i f z =
            let (a, b) = entry-room in
            let M = h.marks true in
            let size = pending-length x.comment h.marks h.pending in
            let after =
            comment-attached h.marks (word 1 0 ∷ words_at x.at g.ms) x.marks x.comment
            h.pending words h.counted (omega arith) (omega (arith, spacious)) in
            held_next (entry g.is) r (λ b. M ++ move_up x.at (node κ g.ms)) place
            (rw (g.is, i, f (near top (drop x.at s) g.k)))
            (omega (
              arith,
              h.counted,
              size,
              length-append M (move_up x.at (node κ g.ms)),
              move_up-length x.at (node κ g.ms),
              node-length κ g.ms,
              node-length (kind_of_entry y (near top (drop x.at s) g.k)) g.ms,
            ))
            (omega (arith, v.marks, g.count, node-length (kind_of_entry y (near top (drop x.at s) g.k)) g.ms))
            (omega (arith, v.error_count))
            (rw (v.comment, n, kept-none) refl)
            (entry_closed x.at x.marks m κ M g.ms after (omega (arith, h.counted, size))
            (omega (arith, g.count)) (omega arith) (omega (arith, spacious, after.long, entry-long)) z)
            (rw (d, append-nil) h.list)

        nearby : near top (drop x.at s) g.k ≡ ltb (count (skip_blank_block (drop end s))) 2 && is_named (get_entry top (drop r.at s))
        nearby =
            ap₂ (λ (u : Out ℕ) (w : List ℕ). ltb (count u) 2 && is_named (get_entry top w)) blocks
            (drop-drop (g.k + used_by (skip_blank_block (drop g.k (drop x.at s)))) x.at s
            ∙ ap (λ (i : ℕ). drop i s) (sym place))

        held-comment : (j : ℕ) → y ≡ comment j → c ≡ regular j x.marks
            → Step (8 * length s) m (set t₂ (x.marks + 2) (2 + j)) r.tree.now (word (closing (2 + j)) 0 ∷ [])
            → Framed s x.tree.now r.tree.now x.errors.now r.errors.now × Held s r × (x.at < r.at)
        unfolding is_named
        held-comment j n u z =
            let (a, b) = entry-room in
            let M = h.marks false in
            let q = count (skip_blank_block (drop end s)) in
            let κ = kind_of_entry (comment j) (ltb q 2 && false) in
            let i : get_entry top (drop x.at s) ≡ ok (comment j) g.ms g.k = g.is ∙ ap (λ (w : Entry). ok w g.ms g.k) n in
            held_next (entry i) r (with_comment M x.at g.ms j q) place
            (rw i (ap (λ (v : Bool). h.marks false ++ move_up x.at (node (kind_of_entry (comment j) v) g.ms)) (sym nearby)))
            (omega (
              arith,
              h.counted,
              length-append M (move_up x.at (node κ g.ms)),
              move_up-length x.at (node κ g.ms),
              node-length κ g.ms,
              node-length (kind_of_entry (comment j) (near top (drop x.at s) g.k)) g.ms,
            ))
            (omega (arith, v.marks, g.count, node-length (kind_of_entry (comment j) (near top (drop x.at s) g.k)) g.ms))
            (omega (arith, v.error_count))
            (rw (v.comment, u) (comment-pending M x.at g.ms j q x.marks h.counted))
            (rw (kind-free j (ltb q 2))
            (entry_closed x.at x.marks m (2 + j) M g.ms words h.counted (omega (arith, g.count))
            (omega arith) (omega (arith, spacious)) z))
            (rw (d, append-nil) h.list)

      -- it was closed
      pub held-entry : (z r : Resource) → Since z → z.at ≡ end → z.marks ≡ m → z.tree.now ≡ t₂ → (e : CodeEntry) → y ≡ entry_of e → EntryClosed e x.marks z r
          → Framed s x.tree.now r.tree.now x.errors.now r.errors.now × Held s (past r) × (x.at < (past r).at)
      unfolding is_named kind_of_entry
      held-entry z r q i n j e u v = go e u v
        where
          past-it : {κ : ℕ} {c : Option ℕ} {t : List ℕ} → Closed x.marks κ c t z r → Moved s end (m + 1) x.error_count c (past r)
          past-it v =
              moved s r _ _ _ _ (ap (λ (b : Bor (List ℕ)). b.now) v.aside.same.source ∙ q.source) (v.aside.at ∙ i) (rw n at v.marks)
              (v.aside.error_count ∙ q.error_count) v.comment

          go : (e : CodeEntry) → y ≡ entry_of e → EntryClosed e x.marks z r → Framed s x.tree.now r.tree.now x.errors.now r.errors.now × Held s (past r) × (x.at < (past r).at)
          go Message u v =
              held-named (past-it v) (v.aside.list ∙ q.list) 1 refl (ap (λ (w : Entry). is_named (ok w g.ms g.k)) u)
              (λ b. ap (λ (w : Entry). kind_of_entry w b) u) (rw (q.source, q.comment, j, n) at v.step)
          go Term u v =
              held-named (past-it v) (v.aside.list ∙ q.list) 2 refl (ap (λ (w : Entry). is_named (ok w g.ms g.k)) u)
              (λ b. ap (λ (w : Entry). kind_of_entry w b) u) (rw (q.source, q.comment, j, n) at v.step)
          go (Comment l) u v = held-comment (past-it v) (v.aside.list ∙ q.list) (number l) u refl (rw (q.source, j, n) at v.step)

    -- it could not be read, and reading stopped at k
    module _ {t₂ : List ℕ} {f : ParserError} {k : ℕ} (w : Step (8 * length s) opened t₁ t₂ [])
        (g : Lost x.at f k (get_entry top (drop x.at s))) where
      stopped : g.k ≤ length (drop x.at s)
      stopped = bad-within (entry-bounds (level-bounds max_open)) (drop x.at s) g.is

      pub lost-inside : k ≤ length s
      lost-inside = omega (arith, stopped, g.place, length-drop x.at s)

      pub lost-long : length t₂ ≡ length x.tree.now
      lost-long = w.long ∙ p.long

      ends : junk_till k s ≡ x.at + junk_end g.k (drop x.at s)
      unfolding junk_end
      ends =
          let inside : x.at + g.k ≤ length s = omega (arith, stopped, length-drop x.at s) in
          rw (g.place, starts-later s x.at g.k (h.starts l) inside, drop-drop) (add_assoc x.at g.k _)

      pub held-junk : (z r : Resource) → Since z → z.at ≡ x.at → z.marks ≡ x.marks → z.tree.now ≡ t₂ → Junked f k z r
          → Framed s x.tree.now r.tree.now x.errors.now r.errors.now × Held s (past r) × (x.at < (past r).at)
      unfolding is_named text_node up_error
      held-junk z r q i n j v =
          let J = junk_end g.k (drop x.at s) in
          let M = h.marks false in
          let blocks : skip_blank_block (drop J (drop x.at s)) ≡ skip_blank_block (drop (junk_till k s) s) =
          ap skip_blank_block (drop-drop J x.at s ∙ ap (λ (i : ℕ). drop i s) (sym ends)) in
          let S =
          step_then h.tree (omega (arith, h.counted, words-length 0 M))
          (step_then (step-failed p o w) (sym (add-zero x.marks)) (rw (q.source, i, n, j) at v.tree)) in
          let R = rows_then h.list (omega (arith, h.listed)) (rw (q.source, i, q.list, q.error_count) at v.list) in
          let err : with_junk f x.at (junk_till k s) ≡ up_error x.at
          (record { fault = g.fault; junk_from = 0; junk_till = J }) =
          λ i. record { fault = g.moved i; junk_from = sym (add-zero x.at) i; junk_till = ends i } in
          let y = moved s r (junk_till k s) (x.marks + 2) (x.error_count + 1) None (ap (λ (b : Bor (List ℕ)). b.now) v.same.source ∙ q.source)
          (rw q.source at v.at) (rw n at v.marks) (rw q.error_count at v.error_count) v.comment in
          held_next (junk g.is) (past r) (λ b. M ++ move_up x.at (text_node 7 0 J)) (omega (arith, y.at, ap used_by blocks, ends))
          (rw g.is)
          (omega (arith, h.counted, length-append M (move_up x.at (text_node 7 0 J)), move_up-length x.at (text_node 7 0 J)))
          y.marks
          y.error_count
          (rw (y.comment, kept-none) refl)
          (rw (words_append, words_up, zero-add, text-placed x.at x.at (junk_till k s) 0 J 7 (sym (add-zero x.at)) ends) S)
          (subst (λ (u : Error). ErrorStep (length s) 0 x.errors.now r.errors.now (h.faults ++ (u ∷ []))) err R)

    -- an opening nests too deep
    pub held-far : {t' e' : List ℕ} {k : ℕ} → Step (8 * length s) opened t₁ t' [] → e' ≡ x.errors.now
        → Far x.at k (get_entry top (drop x.at s)) → Framed s x.tree.now t' x.errors.now e' × (parse max_open s ≡ refused k)
    unfolding following
    held-far w d g = (
      record {
        tree =
            step_cut (step_then h.tree (omega (arith, h.counted, words-length 0 (h.marks false))) (step-failed p o w));
        list = rw d (rows_none (length s) x.errors.now);
      },
      h.answer
          ∙ ap (following (h.marks (is_named (get_entry top (drop x.at s)))) h.faults x.at) deeper
          ∙ ap refused (sym g.place),
    )
      where
        deeper : entries (suc (length s)) top (drop x.at s) ≡ refused g.k
        deeper = rw first_byte (entries_far top (length s) (get_or s x.at 0) (drop (suc x.at) s) (rw first_byte at g.is))

-- ---- the first entry, and the end

pub held_start : (x : Resource) → Sized x.source.now x.tree.now x.errors.now → x.at ≡ 0 → x.marks ≡ 0 → x.error_count ≡ 0 → x.comment ≡ None
    → Held x.source.now (past x)
unfolding parse following used_by
held_start x z i n k c =
    let s = x.source.now in
    let v = moved s x 0 0 0 None refl i n k c in
    let a : (past x).at ≡ used_by (skip_blank_block s) = omega (arith, v.at) in
    record {
      sized = z;
      inside = omega (arith, a, block-le s);
      starts = λ l. rw a (block-starts s);
      marks = λ b. [];
      faults = [];
      room = omega (arith, v.marks);
      few = omega (arith, v.error_count);
      counted = v.marks;
      listed = v.error_count;
      tree = rw words-none (step-none (8 * length s) 0 x.tree.now);
      list = rows_none (length s) x.errors.now;
      pending = rw (v.comment, kept-none) refl;
      answer = rw a;
    }

nothing-named : (sub : Inside) → is_named (get_entry sub []) ≡ false
unfolding get_entry starts_with fields get_identifier starts fail ◌>>=◌ next as_message is_named
nothing-named sub = refl

module _ {s t t' e e' : List ℕ} (f : Framed s t t' e e') where
  pub did-end : {x : Resource} → Held s x → x.tree.now ≡ t' → x.errors.now ≡ e' → length s ≤ x.at
      → DidParse s t t' e e' (Ok (record { marks = x.marks; errors = x.error_count })) (parse max_open s)
  unfolding marks_of errors_of
  did-end {x} h i j n = record {
    answers = rw all (ap₂ (λ n k. Ok (record { marks = n; errors = k })) h.counted h.listed);
    tree = rw all (step_then f.tree refl (rw i at h.tree));
    errors = rw all (rows_then f.list refl (rw j at h.list));
  }
    where
      none : drop x.at s ≡ []
      none = drop_of_length-le s n

      last : following (h.marks (is_named (get_entry top []))) h.faults x.at (entries (suc (length s)) top [])
          ≡ read (h.marks false) h.faults
      last = unfold following entries in (rw (nothing-named top, move_up-nil, append-nil, append-nil))

      all : parse max_open s ≡ read (h.marks false) h.faults
      all = (rw none at h.answer) ∙ last

  pub did-deep : {k : ℕ} → parse max_open s ≡ refused k → DidParse s t t' e e' (Err k) (parse max_open s)
  unfolding marks_of errors_of
  did-deep h = record { answers = rw h; tree = rw (h, words-none) f.tree; errors = rw h f.list }

pub framed-none : (s t e : List ℕ) → Framed s t t e e
framed-none s t e = record { tree = step-none (8 * length s) 0 t; list = rows_none (length s) e }

pub framed_then : {s t t₁ t₂ e e₁ e₂ : List ℕ} → Framed s t t₁ e e₁ → Framed s t₁ t₂ e₁ e₂ → Framed s t t₂ e e₂
framed_then f g = record { tree = step_then f.tree refl g.tree; list = rows_then f.list refl g.list }
