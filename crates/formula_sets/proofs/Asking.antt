-- The question that is said to be posed is the one that is posed.
use Rattle.std.proofs.Common.{◌≡◌, ◌≢◌, ◌∙◌, ◌<◌, ◌+◌, inl, inr, ℕ, suc, Bool, true, false, cond, List, [], ◌∷◌, ◌++◌}
use Rattle.std.proofs.Common.{length, get_or, refl, sym, ap, subst, arith, Option, Some, None, Result, Ok, Err}
use Rattle.std.specs.Prelude.{find, not, ◌&&◌, All, slice_index_or}
use Rattle.std.proofs.lemmas.Bool.{cases_Bool, cases_lt}
use Rattle.std.proofs.Math.ListN.{get_or-eq_default}
use Rattle.std.proofs.lemmas.List.Elements.{All-nil, All-cons}
use Rattle.std.proofs.lemmas.List.FromFn.{get_or-map-range_with_len, length-map-range_with_len, map-range_with_len_more}
use Rattle.std.proofs.lemmas.List.FromFn.{fill_by_all}
use Rattle.game_model.specs.declared.game.Side.{Side}
use Rattle.game_model.specs.declared.game.Side.TheVariants.{Max}
use Rattle.game_model.specs.Game.{Distribution}
use Rattle.game_model.specs.Query.{Query}
use Rattle.label_lines.specs.Labels.{Labelling, is_known, states_with}
use Rattle.label_lines.specs.Owners.{Ownership, is_player}
use Rattle.formula_reader.specs.Formula.{Tree, IsFlat}
use Rattle.formula_sets.specs.declared.fault.PoseFault.{PoseFault}
use Rattle.formula_sets.specs.Truth.{holds, unknown_label}
use Rattle.formula_sets.specs.Sides.{side_of, unknown_player}
use Rattle.formula_sets.specs.Posing.{Posing, BeginsAt, IsSetUp, Poses, init, formula_labels, formula_players}
use Rattle.formula_sets.specs.Posing.{neither_holds}
use Rattle.formula_sets.specs.Posing.{at_states, question_with, question_of, some_state, known_with, initial_said}
use Rattle.formula_sets.specs.Posing.{made_of, pose_said}

-- 1. What is said at each state.

pub at_states-at : {X : Type 0} (value : ℕ → X) (n s : ℕ) (d : X) → s < n → get_or (at_states value n) s d ≡ value s
at_states-at value n s d h = get_or-map-range_with_len value 0 n s s d h (omega arith)

pub length-at_states : {X : Type 0} (value : ℕ → X) (n : ℕ) → length (at_states value n) ≡ n
length-at_states value n = length-map-range_with_len value 0 n

pub goals-apart : (l : Labelling) (f : Tree) (n s : ℕ) → slice_index_or (at_states (holds l f.right) n) s false ≡ true
    → slice_index_or (at_states (neither_holds l f) n) s false ≡ false
goals-apart l f n s goal = elim (cases_lt s n) [
  | inl h ↦
      let holding : holds l f.right s ≡ true = sym (at_states-at (holds l f.right) n s false h) ∙ goal in
      at_states-at (neither_holds l f) n s false h ∙ ap (λ v. not v && not (holds l f.left s)) holding
  | inr h ↦ get_or-eq_default (at_states (neither_holds l f) n) false
      (omega (arith, length-at_states (neither_holds l f) n))
]

-- one state more
pub at_states-more : {X : Type 0} (value : ℕ → X) (n : ℕ) → at_states value (n + 1) ≡ at_states value n ++ value n ∷ []
at_states-more value n = map-range_with_len_more value 0 n n (omega arith)

-- pushed behind those before
pub pushed-more : {X : Type 0} (value : ℕ → X) (n : ℕ) (new old : List X) (x : X) → new ≡ old ++ x ∷ []
    → old ≡ at_states value n → x ≡ value n → new ≡ at_states value (n + 1)
pushed-more {X} value n new old x is before here =
    is ∙ ap (λ (xs : List X). xs ++ x ∷ []) before ∙ ap (λ y. at_states value n ++ y ∷ []) here
    ∙ sym (at_states-more value n)

-- 2. Names that are known.

none-refused : (test : List ℕ → Bool) (names : List (List ℕ)) → find (λ name. not (test name)) names ≡ None
    → All (λ name. test name ≡ true) names
none-refused test [] e = All-nil (λ (name : List ℕ). test name ≡ true)
none-refused test (name ∷ names) e = elim (cases_Bool (test name)) [
  | inl t ↦
      All-cons (λ (n : List ℕ). test n ≡ true) name names t
      (none-refused test names (sym (ap (λ b. cond (not b) (Some name) (find (λ n. not (test n)) names)) t) ∙ e))
  | inr t ↦ absurd (let some : Some name ≡ None =
      sym (ap (λ b. cond (not b) (Some name) (find (λ n. not (test n)) names)) t) ∙ e in cc)
]

refused-none : (test : List ℕ → Bool) (names : List (List ℕ)) → All (λ name. test name ≡ true) names
    → find (λ name. not (test name)) names ≡ None
refused-none test [] h = refl
refused-none test (name ∷ names) h =
    ap (λ b. cond (not b) (Some name) (find (λ n. not (test n)) names)) (h 0 name (omega arith))
    ∙ refused-none test names (λ k d l. h (suc k) d (omega arith))

-- 3. What is said of the initial states.

module _ (l : Labelling) (o : Ownership) (f : Tree) where
  begun : (found initial : List ℕ) → found ≡ states_with l init → unknown_label l (formula_labels f) ≡ None
      → unknown_player o (formula_players f) ≡ None → some_state found ≡ Ok initial → BeginsAt l o f initial
  begun [] initial starts label player is = cc
  begun (s ∷ found) initial starts label player is =
      let P : List ℕ → Type 0 = λ xs. BeginsAt l o f xs in
      let same : s ∷ found ≡ initial = cc in
      subst P same (record {
        labels = none-refused (is_known l) (formula_labels f) label;
        players = none-refused (is_player o) (formula_players f) player;
        starts = starts;
        some = λ e. cc e;
      })

  said : (label player : Option (List ℕ)) (initial : List ℕ)
      → unknown_label l (formula_labels f) ≡ label → unknown_player o (formula_players f) ≡ player
      → known_with label player (some_state (states_with l init)) ≡ Ok initial → BeginsAt l o f initial
  said (Some label) player initial known played is = cc
  said None (Some player) initial known played is = cc
  said None None initial known played is = begun (states_with l init) initial refl known played is

  pub initial-found : (initial : List ℕ) → initial_said l o f ≡ Ok initial → BeginsAt l o f initial
  initial-found initial is =
      said (unknown_label l (formula_labels f)) (unknown_player o (formula_players f)) initial refl refl is

  begins : (initial : List ℕ) → initial ≢ [] → some_state initial ≡ Ok initial
  begins [] some = absurd (some refl)
  begins (s ∷ states) some = refl

  pub initial-again : (initial : List ℕ) → BeginsAt l o f initial → initial_said l o f ≡ Ok initial
  initial-again initial h =
      ap (λ label. known_with label (unknown_player o (formula_players f)) (some_state (states_with l init)))
      (refused-none (is_known l) (formula_labels f) h.labels)
      ∙ ap (λ player. known_with None player (some_state (states_with l init)))
      (refused-none (is_player o) (formula_players f) h.players)
      ∙ ap some_state (sym h.starts)
      ∙ begins initial h.some

  -- what is made of them
  pub made-found : {X : Type 0} (make : List ℕ → X) (said : Result (List ℕ) PoseFault) (x : X)
      → initial_said l o f ≡ said → made_of make said ≡ Ok x → (initial : List ℕ) × (make initial ≡ x)
      × BeginsAt l o f initial
  made-found make (Ok initial) x is made = (initial, (cc), initial-found initial is)
  made-found make (Err fault) x is made = absurd (cc)

-- 4. The question, whatever the path.

module _ (game : List (List Distribution)) (l : Labelling) (o : Ownership) (f : Tree) where
  pub set_up : (goals deads : List Bool) (initial : List ℕ) → length goals ≡ length game → length deads ≡ length game
      → BeginsAt l o f initial → IsSetUp game l o f (question_with game o f goals deads) initial
  set_up goals deads initial goal_count dead_count h = record {
    begins = h;
    game_same = refl;
    side_count = length-at_states (side_of f.coalition f.bound o) (length game);
    goal_count = goal_count;
    dead_count = dead_count;
    sides = λ s k. at_states-at (side_of f.coalition f.bound o) (length game) s Max k;
  }

  pub question-same : (question : Query) (initial : List ℕ) (goals deads : List Bool)
      → IsSetUp game l o f question initial → question.goals ≡ goals → question.deads ≡ deads
      → question_with game o f goals deads ≡ question
  question-same question initial goals deads h goals_are deads_are =
      let sides = fill_by_all (side_of f.coalition f.bound o) question.sides (length game) Max h.side_count h.sides in
      let query : List (List Distribution) → List Side → List Bool → List Bool → Query =
      λ g s a b. record { game = g; sides = s; goals = a; deads = b } in
      ap (λ g. query g (at_states (side_of f.coalition f.bound o) (length game)) goals deads) (sym h.game_same)
      ∙ ap (λ s. query question.game s goals deads) (sym sides)
      ∙ ap (λ a. query question.game question.sides a deads) (sym goals_are)
      ∙ ap (λ b. query question.game question.sides question.goals b) (sym deads_are)

  -- 5. The question of `U` and `F`.

  posing : List ℕ → Posing
  posing initial = record { question = question_of game l o f; initial = initial }

  pub pose-found : (p : Posing) → IsFlat f → pose_said game l o f ≡ Ok p → Poses game l o f p
  unfolding posing
  pose-found p flat is =
      let n = length game in
      let made = made-found l o f posing (initial_said l o f) p refl is in
      let P : Posing → Type 0 = λ x. Poses game l o f x in
      subst P made.1 (record {
        flat = flat;
        set_up = set_up (at_states (holds l f.right) n) (at_states (neither_holds l f) n) made.0
            (length-at_states (holds l f.right) n) (length-at_states (neither_holds l f) n) made.2;
        goals = λ s h. at_states-at (holds l f.right) n s false h;
        deads = λ s h. at_states-at (neither_holds l f) n s false h;
      })

  pub pose-again : (p : Posing) → Poses game l o f p → pose_said game l o f ≡ Ok p
  unfolding posing
  pose-again p h =
      let n = length game in
      let goals = fill_by_all (holds l f.right) p.question.goals n false h.set_up.goal_count h.goals in
      let deads = fill_by_all (neither_holds l f) p.question.deads n false h.set_up.dead_count h.deads in
      let same = question-same p.question p.initial (at_states (holds l f.right) n)
      (at_states (neither_holds l f) n) h.set_up goals deads in
      let whole : Query → Result Posing PoseFault = λ q. Ok (record { question = q; initial = p.initial }) in
      ap (made_of posing) (initial-again l o f p.initial h.set_up.begins) ∙ ap whole same
