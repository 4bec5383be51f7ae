-- The claim on a file cut in two holds for every view whose accepted readings leave what `parse` reads, and so for the
-- reading call as it is defined, for every source, cut and slices.
use Rattle.std.specs.Prelude.{ℕ, ◌≡◌, Bool, List, [], ◌∷◌, ◌++◌, map, length, take, drop}
use Rattle.std.proofs.Common.{arith, sym, ap₂, ◌∙◌, subst, length-take, take-append-drop}
use Rattle.std.proofs.Math.Path.{ap}
use Rattle.syntax.specs.Kind as Kind
use Rattle.syntax.specs.Limits.{max_open}
use Rattle.syntax.specs.Marks.{Mark, plain, placed, move_up}
use Rattle.syntax.specs.Core.{up_error, read, parse}
use Rattle.syntax.specs.Layout.{tree_capacity, tree_layout, error_layout, groups}
use Rattle.syntax.specs.Reading.{marks_of}
use Rattle.syntax.specs.Serializer.{serialize}
use Rattle.laws.specs.File.{parse-read}
use Rattle.laws.specs.Layout.{AllProper, proper-append}
use Rattle.laws.specs.Call.{Read, read_of, marks-left}
use Rattle.laws.specs.Formed.{proper}
use Rattle.cut.specs.Claim.{View, Exception, Without, between, move_tree, move_errors, join, Fit, Claim, SameTree, Demand3}
use Rattle.cut.specs.Definition.{kinds_of, tree_in, errors_in, reading}
use Rattle.cut.specs.Faithful.{Shows, Faithful}
use Rattle.cut.specs.Words.{of_marks, of_errors, tree-in, errors-in, join-marks, move-errors, marks-same}
use Rattle.cut.specs.Clean.{clean}
use Rattle.cut.proofs.Tree.{Readings, CutTree, cut-tree}
use Rattle.cut.proofs.Text.{cut-text}

proper-up : (n : ℕ) (ms : List Mark) → AllProper ms → AllProper (move_up n ms)
unfolding move_up
proper-up n [] p = tt
proper-up n (plain k ∷ ms) p = (p.0, proper-up n ms p.1)
proper-up n (placed k q ∷ ms) p = (p.0, proper-up n ms p.1)

-- ---- the claim, for such a view

module _ {n : ℕ} {view : View} (s : List ℕ) (k : ℕ) {w : view.Reading s} {f : view.Reading (take k s)} {g : view.Reading (drop k s)}
    (fit : Fit view s k w f g) (whole : Shows n view s w) (first : Shows n view (take k s) f) (second : Shows n view (drop k s) g) where
  part_length : length (take k s) ≡ k
  part_length = omega (arith, length-take k s, fit.within)

  no-errors : first.list ≡ []
  no-errors = clean n (take k s) first.marks first.list first.reads (subst (Without Kind.junk) first.kinds fit.clean)

  -- a first part without junk has no error either
  first-errors : view.errors (take k s) f ≡ record { count = 0; kinds = []; groups = [] }
  unfolding of_errors groups
  first-errors = first.errors ∙ ap of_errors no-errors

  readings : Readings n (take k s) (drop k s) first.marks second.marks whole.marks second.list whole.list
  readings = record {
    whole = fit.ends;
    fresh = fit.starts;
    first = first.reads ∙ ap (read first.marks) no-errors;
    second = second.reads;
    uncut = ap (parse n) (take-append-drop k s) ∙ whole.reads;
  }

  trees : CutTree n (take k s) (drop k s) first.marks second.marks whole.marks second.list whole.list
  trees = cut-tree n (take k s) (drop k s) first.marks second.marks whole.marks second.list whole.list readings

  abbrev joined : List Mark
  joined = first.marks ++ move_up k second.marks

  joined_is : join (view.tree (take k s) f) (move_tree k (view.tree (drop k s) g)) ≡ of_marks joined
  joined_is = ap₂ (λ a b. join a (move_tree k b)) first.tree second.tree
      ∙ join-marks k first.marks second.marks (proper n (drop k s) second.marks second.list second.reads)

  -- the marks that the theorem on marks speaks of
  moved : first.marks ++ move_up (length (take k s)) second.marks ≡ joined
  moved = ap (λ j. first.marks ++ move_up j second.marks) part_length

  same : whole.marks ≡ joined → SameTree view s k w f g
  same e = whole.tree ∙ ap of_marks e ∙ sym joined_is

  told : SameTree view s k w f g → whole.marks ≡ joined
  told e =
      marks-same whole.marks joined (proper n s whole.marks whole.list whole.reads)
      (proper-append first.marks (move_up k second.marks)
      (proper n (take k s) first.marks first.list first.reads)
      (proper-up k second.marks (proper n (drop k s) second.marks second.list second.reads)))
      (sym whole.tree ∙ e ∙ joined_is)

  errors-moved : view.errors s w ≡ move_errors k (view.errors (drop k s) g)
  errors-moved =
      whole.errors ∙ ap of_errors (trees.errors ∙ ap (λ j. map (up_error j) second.list) part_length)
      ∙ sym (move-errors k second.list)
      ∙ ap (move_errors k) (sym second.errors)

  texts-join : SameTree view s k w f g → (junk : Bool) (t a b : List ℕ) → view.Text s w junk t
      → view.Text (take k s) f junk a → view.Text (drop k s) g junk b
      → t ≡ a ++ (between (view.kinds (take k s)) (view.kinds (drop k s)) ++ b)
  texts-join e junk t a b x y z =
      whole.text junk t x
      ∙ ap (λ r. serialize r junk whole.marks) (sym (take-append-drop k s))
      ∙ cut-text n (take k s) (drop k s) first.marks second.marks whole.marks second.list
      whole.list readings (told e ∙ sym moved) junk
      ∙ ap₂ (λ (p q : List ℕ). p ++ q) (sym (first.text junk a y))
      (ap₂ (λ (p q : List ℕ). p ++ q) (ap₂ between (sym first.kinds) (sym second.kinds))
      (sym (second.text junk b z)))

  claim : Claim view s k w f g
  claim = record {
    same = λ x. same (trees.equal (λ z. x (subst (Exception (take k s) (drop k s)) (sym second.kinds) z)) ∙ moved);
    differs = λ x e. trees.differs (subst (Exception (take k s) (drop k s)) second.kinds x) (told e ∙ sym moved);
    errors = errors-moved;
    texts = texts-join;
  }

-- such a view's claim holds
pub holds : (n : ℕ) (view : View) → Faithful n view → Demand3 view
holds n view shows s k w f g fit =
    claim s k fit (shows s w fit.whole_read) (shows (take k s) f fit.first_read)
    (shows (drop k s) g fit.second_read)

-- the first part's list of errors is empty, so that the whole's is that of both parts joined
pub none_first : (n : ℕ) (view : View) → Faithful n view
    → (s : List ℕ) (k : ℕ) (w : view.Reading s) (f : view.Reading (take k s)) (g : view.Reading (drop k s))
    → Fit view s k w f g → view.errors (take k s) f ≡ record { count = 0; kinds = []; groups = [] }
none_first n view shows s k w f g fit =
    first-errors s k fit (shows s w fit.whole_read) (shows (take k s) f fit.first_read)
    (shows (drop k s) g fit.second_read)

-- ---- the reading call, as it is defined

pub reading-shows : Faithful max_open reading
unfolding kinds_of marks_of
reading-shows s l h =
    let d : Read s l.tree l.errors = read_of s l.tree l.errors h in
    let u = parse-read max_open s d.reads in
    record {
      marks = d.marks;
      list = d.errors;
      reads = d.reads;
      kinds = ap kinds_of d.reads;
      tree = ap tree_in d.tree
          ∙ tree-in (tree_capacity (length s)) d.marks (drop (tree_layout (length s)) l.tree)
          (omega (arith, u.0.room));
      errors = ap errors_in d.list ∙ errors-in (length s) d.errors (drop (error_layout (length s)) l.errors) u.1;
      text = λ junk t e. e ∙ ap (serialize s junk) (marks-left s l.tree l.errors h);
    }

pub demand-3 : Demand3 reading
demand-3 = holds max_open reading reading-shows
