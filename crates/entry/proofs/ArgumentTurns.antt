-- The loop over the arguments of a call.
use Rattle.std.specs.Prelude.{◌≡◌, ℕ, ◌+◌, ◌*◌, ◌<◌, ◌≤◌, true, false, not, eqb, Result, Ok, Err, List, [], ◌∷◌, length, drop}
use mathlib.Core.Path.{refl, sym, ap, ap₂, subst, ◌∙◌}
use native.Mathlib.Nat.{add-zero, le_refl}
use native.Mathlib.Omega.{arith}
use Rattle.std.proofs.Common.{Bor}
use Rattle.syntax.specs.Byte as Byte
use Rattle.syntax.specs.Bytes.{starts}
use Rattle.syntax.specs.Marks.{Mark}
use Rattle.syntax.specs.declared.errors.ParserError.{ParserError}
use Rattle.syntax.specs.Reader.{Out, ok, bad, deep, again, done, turn_of, repeat}
use Rattle.syntax.specs.Pattern.{Inside}
use Rattle.syntax.specs.Expression.{level, argument_turn}
use Rattle.laws.specs.Bytes.{by_case}
use Rattle.laws.specs.Loop.{repeat-done}
use Rattle.laws.specs.Bounds.{Uses, TurnBounded, goes, moves}
use Rattle.laws.specs.Bounds.Expression.{argument_turn-bounds, level-bounds}
use Rattle.entry.specs.declared.errors.Stop.{Stop}
use Rattle.entry.specs.declared.errors.Stop.TheVariants.{Error, TooDeep}
use Rattle.entry.specs.declared.source.Source.{Source}
use Rattle.entry.specs.declared.marks.Marks.{Marks}
use Rattle.entry.specs.declared.parser.Parser.{Parser}
use Rattle.entry.specs.declared.expression.Argument.{Argument}
use Rattle.entry.specs.declared.expression.Argument.TheVariants.{Positional, Named}
use Rattle.entry.specs.Did.{Told, yes, silent, Did}
use Rattle.entry.specs.Names.{Names}
use Rattle.entry.specs.Reads.{rest, Frame, ReadsOf}
use Rattle.entry.specs.Argument.{is_argument, argument_read, argument_of, Argued}
use Rattle.entry.proofs.Steps.{step-none}
use Rattle.entry.proofs.Dids.{Found, valued, lost, far, did-again, did-lost, did-far, failed-wrote, words-none}
use Rattle.entry.proofs.Chains.{frame-none, frame-then}
use Rattle.entry.proofs.NamedBefore.{names-none}

-- ---- a turn
pub argument-starts : (x : List ℕ) → starts (λ b. not (eqb b 41)) x ≡ is_argument x
unfolding starts is_argument
argument-starts [] = refl
argument-starts (b ∷ bs) = refl

argument-turn : (sub : Inside) (names : List (List ℕ)) (y : List ℕ) → is_argument y ≡ true
    → argument_turn sub names y ≡ turn_of (argument_of sub names y)
unfolding is_argument argument_turn
argument-turn sub names [] h = let z : ◌≡◌ {A = ℕ} 0 1 = cc in absurd (omega arith)
argument-turn sub names (b ∷ bs) h =
    by_case (eqb b Byte.close_parenthesis)
    (λ q. let z : false ≡ true = rw q at h in let y : ◌≡◌ {A = ℕ} 0 1 = cc in absurd (omega arith))
    (λ q. rw (q, argument_turn))

argument-none : (sub : Inside) (names : List (List ℕ)) (y : List ℕ) → is_argument y ≡ false → argument_turn sub names y ≡ done (ok tt [] 0)
unfolding is_argument argument_turn
argument-none sub names [] h = refl
argument-none sub names (b ∷ bs) h =
    by_case (eqb b Byte.close_parenthesis) (λ q. rw (q, argument_turn))
    (λ q. let z : true ≡ false = rw q at h in let y : ◌≡◌ {A = ℕ} 0 1 = cc in absurd (omega arith))

module _ (sub : Inside) (names : List (List ℕ)) (y : List ℕ) (h : is_argument y ≡ true) where
  again-is : {v : List (List ℕ)} {ms : List Mark} {k : ℕ} → argument_of sub names y ≡ ok v ms k → argument_turn sub names y ≡ again v ms k
  unfolding turn_of
  again-is e = argument-turn sub names y h ∙ (rw e)

  bad-is : {f : ParserError} {k : ℕ} → argument_of sub names y ≡ bad f k → argument_turn sub names y ≡ done (bad f k)
  unfolding turn_of
  bad-is e = argument-turn sub names y h ∙ (rw e)

  deep-is : {k : ℕ} → argument_of sub names y ≡ deep k → argument_turn sub names y ≡ done (deep k)
  unfolding turn_of
  deep-is e = argument-turn sub names y h ∙ (rw e)

argument-uses : {v : List (List ℕ)} {ms : List Mark} {k : ℕ} (left : ℕ) (names : List (List ℕ)) (y : List ℕ)
    → is_argument y ≡ true → argument_of (level left) names y ≡ ok v ms k → Uses 1 y ms k
argument-uses {v} {ms} {k} left names y h e =
    go
    (subst (TurnBounded left 1 0 y) (again-is (level left) names y h e)
    ((argument_turn-bounds (level-bounds left)).on names y))
  where
    go : TurnBounded {A = Unit {0}} left 1 0 y (again v ms k) → Uses 1 y ms k
    go (goes u) = u

-- ---- what an argument is
pub read-none : (v : List (List ℕ)) → Positional ≡ argument_read v → v ≡ []
read-none [] e = refl
read-none (x ∷ xs) e = let z : ◌≡◌ {A = ℕ} 0 1 = cc in absurd (omega arith)

pub is-named : (x : Argument) → (x ≡ Positional → ⊥) → x ≡ Named
is-named Positional h = absurd (h refl)
is-named Named h = refl

pub names-same : {b b' : Bor (List ℕ)} {t : List ℕ} {c c' i n : ℕ} {v : List (List ℕ)} → b' ≡ b → c' ≡ c → Names b.now t c i n v
    → Names b'.now t c' i n v
names-same e f h = rw (e, f) h

did-same : {b b' : Bor (List ℕ)} {t t' : List ℕ} {c c' at n : ℕ} {r : Told (Unit {0})} (q : List ℕ → Out (Unit {0})) → b' ≡ b → c' ≡ c
    → Did silent c' at n t t' r (q (drop at b'.now)) → Did silent c at n t t' r (q (drop at b.now))
did-same q e f h = rw (e, f) at h

-- what is read from here on completes the whole
pub record Going (sub : Inside) (s₀ s : Source) (m₀ m : Marks) (named : ℕ) : Type 0 where
  pub names : List (List ℕ)
  pub held : Names s.bytes.now m.words.now m.capacity named m.count names
  pub from : s₀.ptr ≤ s.ptr
  pub frame : Frame s₀ s m₀ m
  pub spent : m.count ≤ 8 * s.ptr
  pub on : (s' : Source) (m' : Marks) (r : Result (Unit {0}) Stop) → ReadsOf silent s s' m m' r (repeat (argument_turn sub) names (rest s))
      → ReadsOf silent s₀ s' m₀ m' r (repeat (argument_turn sub) [] (rest s₀))

pub going-from : (sub : Inside) (s : Source) (m : Marks) → m.count ≤ 8 * s.ptr → m.count ≤ m.capacity → Going sub s s m m m.count
going-from sub s m p q =
    record {
      names = [];
      held = names-none s.bytes.now m.words.now m.capacity m.count q m.layout;
      from = le_refl s.ptr;
      frame = frame-none s m;
      spent = p;
      on = λ s' m' r d. d;
    }

module _ {s₀ : Source} {m₀ : Marks} {p p' : Parser} {named : ℕ} (left : ℕ) (g : Going (level left) s₀ p.source m₀ p.tree.now named)
    (h : is_argument (rest p.source) ≡ true) where
  module _ {x : Argument} (d : Argued (level left) p p' named g.names (Ok x)) where
    abbrev f : Found p.tree.now.capacity p.source.ptr p.tree.now.count p'.source.ptr p'.tree.now.count p.tree.now.words.now p'.tree.now.words.now
        (argument_of (level left) g.names (rest p.source))
    f = (valued (argument_of (level left) g.names (rest p.source)) d.reads.did refl).found

    pub past : p.source.ptr < p'.source.ptr
    past =
        let u = argument-uses left g.names (rest p.source) h f.is in
        omega (arith, u.room, f.place)

    pub room : p'.tree.now.count ≤ p'.tree.now.capacity
    room =
        let u = argument-uses left g.names (rest p.source) h f.is in
        omega (arith, u.room, f.place, f.count, g.spent, p'.holds, p'.source.inside)

    goes_on : {first : ℕ} → Names p.source.bytes.now p'.tree.now.words.now p.tree.now.capacity first p'.tree.now.count f.value
        → Going (level left) s₀ p'.source m₀ p'.tree.now first
    goes_on n =
        let u = argument-uses left g.names (rest p.source) h f.is in
        record {
          names = f.value;
          held = names-same d.reads.frame.bytes d.reads.frame.tree.capacity n;
          from = omega (arith, f.place, g.from);
          frame = frame-then g.frame d.reads.frame;
          spent = omega (arith, u.room, f.place, f.count, g.spent);
          on = λ s' m' r z. g.on s' m' r (further s' m' r z);
        }
      where
        further : (s' : Source) (m' : Marks) (r : Result (Unit {0}) Stop)
            → ReadsOf silent p'.source s' p'.tree.now m' r (repeat (argument_turn (level left)) f.value (rest p'.source))
            → ReadsOf silent p.source s' p.tree.now m' r (repeat (argument_turn (level left)) g.names (rest p.source))
        further s' m' r z =
            record {
              frame = frame-then d.reads.frame z.frame;
              did =
                  did-again (moves (argument_turn-bounds (level-bounds left))) p.source.bytes.now g.names
                  (again-is (level left) g.names (rest p.source) h f.is) f.place f.count f.wrote
                  (did-same (repeat (argument_turn (level left)) f.value) d.reads.frame.bytes d.reads.frame.tree.capacity z.did);
            }

    pub on-positional : x ≡ Positional → p'.tree.now.count ≤ p'.tree.now.capacity → Going (level left) s₀ p'.source m₀ p'.tree.now p'.tree.now.count
    on-positional e q =
        let v = valued (argument_of (level left) g.names (rest p.source)) d.reads.did refl in
        let none : f.value ≡ [] = read-none f.value (sym e ∙ v.told) in
        let c = d.reads.frame.tree.capacity in
        let l : 2 + 2 * p.tree.now.capacity ≤ length p'.tree.now.words.now = omega (arith, p'.tree.now.layout, c) in
        goes_on (rw none (names-none p.source.bytes.now p'.tree.now.words.now p.tree.now.capacity p'.tree.now.count (omega (arith, q, c)) l))

    pub on-named : x ≡ Named → Going (level left) s₀ p'.source m₀ p'.tree.now named
    on-named e = goes_on (d.more (ap Ok e) f.value f.ms f.k f.is)

  pub on-stop : {e : Stop} → Argued (level left) p p' named g.names (Err e)
      → ReadsOf silent s₀ p'.source m₀ p'.tree.now (Err e) (repeat (argument_turn (level left)) [] (rest s₀))
  on-stop {e} d = g.on _ _ _ (go e d.reads)
    where
      go : (e : Stop) → ReadsOf argument_read p.source p'.source p.tree.now p'.tree.now (Err e) (argument_of (level left) g.names (rest p.source))
          → ReadsOf silent p.source p'.source p.tree.now p'.tree.now (Err e) (repeat (argument_turn (level left)) g.names (rest p.source))
      go (Error x) r =
          let l = lost (argument_of (level left) g.names (rest p.source)) r.did refl in
          record {
            frame = r.frame;
            did =
                did-lost silent
                (record {
                  fault = l.fault;
                  k = l.k;
                  is =
                      repeat-done (argument_turn (level left)) g.names (rest p.source) (bad-is (level left) g.names (rest p.source) h l.is);
                  moved = l.moved;
                  place = l.place;
                }) (failed-wrote r.did);
          }
      go TooDeep r =
          let l = far (argument_of (level left) g.names (rest p.source)) r.did refl in
          record {
            frame = r.frame;
            did =
                did-far silent
                (record {
                  k = l.k;
                  is =
                      repeat-done (argument_turn (level left)) g.names (rest p.source) (deep-is (level left) g.names (rest p.source) h l.is);
                  place = l.place;
                }) (failed-wrote r.did);
          }

pub on-end : {s₀ s : Source} {m₀ m : Marks} {named : ℕ} (sub : Inside) → Going sub s₀ s m₀ m named → is_argument (rest s) ≡ false
    → ReadsOf silent s₀ s m₀ m (Ok tt) (repeat (argument_turn sub) [] (rest s₀))
on-end {s = s} {m = m} sub g h =
    g.on s m _
    (record {
      frame = frame-none s m;
      did =
          rw (repeat-done (argument_turn sub) g.names (rest s) (argument-none sub g.names (rest s) h))
          (record {
            answers = ap₂ (yes tt) (sym (add-zero s.ptr)) (sym (add-zero m.count));
            wrote = rw words-none (step-none m.capacity m.count m.words.now);
          });
    })
