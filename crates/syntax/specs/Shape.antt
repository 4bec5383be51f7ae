-- The shape of a mark list: the content models, the lists that are well formed, the value of refusal 6,
-- and the check that finds it in one pass.
use Rattle.std.specs.Prelude.{ℕ, suc, ◌+◌, ◌-◌, ◌≤◌, ◌<◌, ◌≡◌, Bool, true, false, ◌&&◌, ◌||◌, not, List, [], ◌∷◌, ◌++◌, eqb, leb, length, take}
use Rattle.std.proofs.Math.Option.{Option, some, none}
use Rattle.syntax.specs.Kind as Kind
use Rattle.syntax.specs.Marks.{Mark, plain, placed, node, text_node}

-- The content models. The children of a node take an automaton from state to state, one automaton for each kind;
-- the states are numbers. The list as a whole counts as a node of the kind `top`.
abbrev pub top : ℕ
top = 0

-- the state before the first child
abbrev pub start : ℕ
start = 0

-- kinds of children: entries that a comment may be attached to, the other entries, inline expressions
abbrev pub named : List ℕ
named = Kind.message ∷ Kind.term ∷ []

abbrev pub free : List ℕ
free = Kind.comment ∷ Kind.group_comment ∷ Kind.resource_comment ∷ Kind.junk ∷ []

abbrev pub inline : List ℕ
inline =
    Kind.string ∷ Kind.number ∷ Kind.variable ∷ Kind.function ∷ Kind.message_reference ∷ Kind.term_reference ∷ Kind.placeable ∷ []

-- in the state q a child of one of the kinds js leads to the state r
pub data Move : Type 0 where
  move : (q : ℕ) (js : List ℕ) (r : ℕ) → Move

-- a node of the kind k has children by these moves, and may end in one of the states qs
pub data Model : Type 0 where
  model : (k : ℕ) → List Move → (qs : List ℕ) → Model

-- 8s
abbrev lines : List Move
lines = move 0 (Kind.comment_line ∷ []) 0 ∷ []

-- 17 or 18, then 11
abbrev keyed : List Move
keyed = move 0 (Kind.number_key ∷ Kind.identifier_key ∷ []) 1 ∷ move 1 (Kind.pattern ∷ []) 2 ∷ []

unfoldable pub models : List Model
models =
    -- 1 to 7, each 6 right before a 1 or 2: the state 1 is right after a 6
    model top (move 0 named 0 ∷ move 0 free 0 ∷ move 0 (Kind.attached_comment ∷ []) 1 ∷ move 1 named 0 ∷ []) (0 ∷ [])
    -- 9, 11 if any, 10s
    ∷ model Kind.message
    (move 0 (Kind.identifier ∷ []) 1 ∷ move 1 (Kind.pattern ∷ Kind.attribute ∷ []) 2
    ∷ move 2 (Kind.attribute ∷ []) 2 ∷ [])
    (1 ∷ 2 ∷ [])
    -- 9, 11, 10s
    ∷ model Kind.term (move 0 (Kind.identifier ∷ []) 1 ∷ move 1 (Kind.pattern ∷ []) 2 ∷ move 2 (Kind.attribute ∷ []) 2 ∷ []) (2 ∷ [])
    ∷ model Kind.comment lines (0 ∷ [])
    ∷ model Kind.group_comment lines (0 ∷ [])
    ∷ model Kind.resource_comment lines (0 ∷ [])
    ∷ model Kind.attached_comment lines (0 ∷ [])
    -- 9, 11
    ∷ model Kind.attribute (move 0 (Kind.identifier ∷ []) 1 ∷ move 1 (Kind.pattern ∷ []) 2 ∷ []) (2 ∷ [])
    -- 12s and 13s
    ∷ model Kind.pattern (move 0 (Kind.text ∷ Kind.placeable ∷ []) 0 ∷ []) (0 ∷ [])
    -- one expression
    ∷ model Kind.placeable (move 0 inline 1 ∷ move 0 (Kind.select ∷ []) 1 ∷ []) (1 ∷ [])
    -- an inline, then 15s or 16s
    ∷ model Kind.select (move 0 inline 1 ∷ move 1 (Kind.variant ∷ Kind.default_variant ∷ []) 1 ∷ []) (1 ∷ [])
    ∷ model Kind.variant keyed (2 ∷ [])
    ∷ model Kind.default_variant keyed (2 ∷ [])
    -- 9
    ∷ model Kind.variable (move 0 (Kind.identifier ∷ []) 1 ∷ []) (1 ∷ [])
    -- 9, 25
    ∷ model Kind.function (move 0 (Kind.identifier ∷ []) 1 ∷ move 1 (Kind.arguments ∷ []) 2 ∷ []) (2 ∷ [])
    -- 9, then 9 if written
    ∷ model Kind.message_reference (move 0 (Kind.identifier ∷ []) 1 ∷ move 1 (Kind.identifier ∷ []) 2 ∷ []) (1 ∷ 2 ∷ [])
    -- 9, then 9, then 25, each of these two if written
    ∷ model Kind.term_reference
    (move 0 (Kind.identifier ∷ []) 1 ∷ move 1 (Kind.identifier ∷ []) 2 ∷ move 1 (Kind.arguments ∷ []) 3
    ∷ move 2 (Kind.arguments ∷ []) 3 ∷ [])
    (1 ∷ 2 ∷ 3 ∷ [])
    -- inlines, then 26s
    ∷ model Kind.arguments (move 0 inline 0 ∷ move 0 (Kind.named_argument ∷ []) 1 ∷ move 1 (Kind.named_argument ∷ []) 1 ∷ []) (0 ∷ 1 ∷ [])
    -- 9, an inline
    ∷ model Kind.named_argument (move 0 (Kind.identifier ∷ []) 1 ∷ move 1 inline 2 ∷ []) (2 ∷ [])
    ∷ []

unfoldable pub among : ℕ → List ℕ → Bool
among x [] = false
among x (y ∷ ys) = eqb x y || among x ys

unfoldable pub step_in : List Move → (q j : ℕ) → Option ℕ
step_in [] q j = none
step_in (move q' js r ∷ ms) q j = elim (eqb q q' && among j js) [ true ↦ some r | false ↦ step_in ms q j ]

unfoldable pub step_by : List Model → (k q j : ℕ) → Option ℕ
step_by [] k q j = none
step_by (model k' ms qs ∷ rest) k q j = elim (eqb k k') [ true ↦ step_in ms q j | false ↦ step_by rest k q j ]

unfoldable pub final_by : List Model → (k q : ℕ) → Bool
final_by [] k q = false
final_by (model k' ms qs ∷ rest) k q = elim (eqb k k') [ true ↦ among q qs | false ↦ final_by rest k q ]

-- where the child j leads in the state q of the kind k; whether a node of the kind k may end in the state q
unfoldable pub step : (k q j : ℕ) → Option ℕ
step k q j = step_by models k q j

unfoldable pub final : (k q : ℕ) → Bool
final k q = final_by models k q

-- the openings of '{' and '(' that a node of the kind j makes
unfoldable pub opens : ℕ → ℕ
opens j = elim (among j (Kind.placeable ∷ Kind.arguments ∷ [])) [ true ↦ 1 | false ↦ 0 ]

-- In a node of the kind k that may open `left` more, the children ms lead from the state q to the state t.
-- A T child has its places in order and on character boundaries of the source, which `boundary` tells.
-- Another child is a node whose own children lead from its start to where it may end.
pub data Run (boundary : ℕ → Bool) : (left k q t : ℕ) → List Mark → Type 0 where
  stay : {left k q : ℕ} → Run boundary left k q q []
  text : {left k q r t : ℕ} {ms : List Mark} (j a e : ℕ)
      → Kind.is_text j ≡ true → step k q j ≡ some r → boundary a ≡ true → boundary e ≡ true → a ≤ e
      → Run boundary left k r t ms → Run boundary left k q t (text_node j a e ++ ms)
  nest : {left inside k q r s t j : ℕ} {inner ms : List Mark}
      → Kind.is_text j ≡ false → step k q j ≡ some r → opens j + inside ≡ left → Run boundary inside j start s inner → final j s ≡ true
      → Run boundary left k r t ms → Run boundary left k q t (node j inner ++ ms)

-- the children ms complete a node of the kind k that is in the state q
pub record Content (boundary : ℕ → Bool) (left k q : ℕ) (ms : List Mark) : Type 0 where
  pub to : ℕ
  pub run : Run boundary left k q to ms
  pub ended : final k to ≡ true

abbrev pub WellFormed : (boundary : ℕ → Bool) (limit : ℕ) → List Mark → Type 0
WellFormed boundary limit ms = Content boundary limit top start ms

-- a well-formed list begins with ms
pub record Begins (boundary : ℕ → Bool) (limit : ℕ) (ms : List Mark) : Type 0 where
  pub rest : List Mark
  pub whole : WellFormed boundary limit (ms ++ rest)

-- Refusal 6 returns the first mark with which no well-formed list can begin, the count if the list ends early.
pub data Refused (boundary : ℕ → Bool) (limit : ℕ) (ms : List Mark) : ℕ → Type 0 where
  at : {v : ℕ}
      → v < length ms → Begins boundary limit (take v ms) → ¬ Begins boundary limit (take (suc v) ms) → Refused boundary limit ms v
  early : Begins boundary limit ms → ¬ WellFormed boundary limit ms → Refused boundary limit ms (length ms)

-- The check. A frame is an open node's kind and its state after the child that is being read.
pub data Frame : Type 0 where
  frame : (k q : ℕ) → Frame

-- The check stands between two children of the innermost open node, or in a T child of the kind j that starts at a.
-- `left` more openings are allowed; the frames of the nodes around stand innermost first.
pub data State : Type 0 where
  between : (left k q : ℕ) → List Frame → State
  within : (j a left k q : ℕ) → List Frame → State

-- The openings that must be left where a node of the kind j begins: a function needs its arguments, and no other
-- kind needs a child that opens.
unfoldable pub needs : ℕ → ℕ
needs j = elim (among j (Kind.placeable ∷ Kind.function ∷ Kind.arguments ∷ [])) [ true ↦ 1 | false ↦ 0 ]

unfoldable pub enter : (left k q : ℕ) → List Frame → ℕ → Option State
enter left k q fs j =
    elim
    (not (Kind.is_text j)
    && leb (needs j) left) [
      | true ↦ elim
          (step k q j) [ none ↦ none | some r ↦ some (between (left - opens j) j start (frame k r ∷ fs)) ]
      | false ↦ none
    ]

unfoldable pub leave : (left k : ℕ) → List Frame → Option State
leave left k [] = none
leave left k (frame k' q ∷ fs) = some (between (opens k + left) k' q fs)

unfoldable pub step_mark : (boundary : ℕ → Bool) → State → Mark → Option State
step_mark boundary (between left k q fs) (plain j) =
    elim (eqb j (Kind.closing k)) [ true ↦ elim (final k q) [ true ↦ leave left k fs | false ↦ none ] | false ↦ enter left k q fs j ]
step_mark boundary (between left k q fs) (placed j a) =
    elim (Kind.is_text j && boundary a) [ true ↦ elim (step k q j) [ none ↦ none | some r ↦ some (within j a left k r fs) ] | false ↦ none ]
step_mark boundary (within j a left k q fs) (plain i) = none
step_mark boundary (within j a left k q fs) (placed i e) =
    elim (eqb i (Kind.closing j) && (boundary e && leb a e)) [ true ↦ some (between left k q fs) | false ↦ none ]

-- whether a list may end here
unfoldable pub may_end : State → Bool
may_end (between left k q []) = final k q
may_end (between left k q (f ∷ fs)) = false
may_end (within j a left k q fs) = false

-- the check of ms from the state s on, n marks having been read
unfoldable pub judge : (boundary : ℕ → Bool) → ℕ → State → List Mark → Option ℕ
judge boundary n s [] = elim (may_end s) [ true ↦ none | false ↦ some n ]
judge boundary n s (m ∷ ms) = elim (step_mark boundary s m) [ none ↦ some n | some s' ↦ judge boundary (suc n) s' ms ]

-- none: the list is well formed; some v: v is the value of refusal 6
unfoldable pub verdict : (boundary : ℕ → Bool) (limit : ℕ) → List Mark → Option ℕ
verdict boundary limit ms = judge boundary 0 (between limit top start []) ms
