-- What texts and words say by cases is what they ask.
use Rattle.std.proofs.Common.{◌≡◌, ◌&&◌, ℕ, Bool, true, false, cond, List, length, Option, Some, None, Result, Ok, Err}
use Rattle.std.proofs.Common.{refl, sym, ap, subst, ◌∙◌}
use Rattle.std.proofs.lemmas.Bool.{and_parts}
use Rattle.game_model.specs.Game.{Distribution}
use Rattle.fractions.proofs.Said.{number-found, number-again}
use Rattle.distributions.proofs.Chosen.{choice-found, choice-again}
use Rattle.transition_lines.specs.Text.{DenotesGame, game_of}
use Rattle.transition_lines.proofs.TextLaws.{text_found, text_again}
use Rattle.label_lines.specs.Denotes.{DenotesLabels, DenotesOwners}
use Rattle.label_lines.specs.Labels.{Labelling}
use Rattle.label_lines.specs.Owners.{Ownership}
use Rattle.label_lines.specs.Texts.{labels_of, owners_of}
use Rattle.label_lines.proofs.LabelLaws.{labels_of-found, labels_of-again}
use Rattle.label_lines.proofs.OwnerLaws.{owners_of-found, owners_of-again}
use Rattle.formula_reader.specs.Formula.{Tree, is_flat, IsFlat}
use Rattle.formula_reader.specs.Grammar.{formula_said}
use Rattle.formula_reader.specs.Rules.{DenotesFormula}
use Rattle.formula_reader.proofs.Denoted.{formula_denoted}
use Rattle.formula_reader.proofs.Again.{formula_said_again}
use Rattle.formula_reader.specs.declared.formula.PathKind.{PathKind}
use Rattle.formula_reader.specs.declared.formula.PathKind.TheVariants.{Until, Within, Next, Always}
use Rattle.rpatl_syntax.specs.Dual.{dual_of, answered_by}
use Rattle.formula_sets.specs.Posing.{Model, Posing, Poses, initial_said, pose_said, pose_next_said}
use Rattle.formula_sets.proofs.Asking.{initial-found, initial-again, pose-found, pose-again}
use Rattle.formula_sets.proofs.AskingNext.{pose_next-found, pose_next-again}
use Rattle.output.specs.declared.refusal.Refusal.{Refusal}
use Rattle.output.specs.declared.refusal.Refusal.TheVariants.{OfTra, OfLab, OfOwn, OfFormula, OfQuestion}
use Rattle.output.specs.declared.refusal.Refusal.TheVariants.{WrongKind}
use Rattle.output.specs.declared.refusal.Text.{Text}
use Rattle.output.specs.declared.refusal.Text.TheVariants.{Tra, Lab, Own}
use Rattle.command_words.specs.Words.{Asked}
use Rattle.inputs.specs.declared.problem.Paths.{Paths}
use Rattle.inputs.specs.Problems.{Problem, OfReach, OfWithin, OfNext, OfNested, IsReaching, PosesProblem}
use Rattle.inputs.specs.Problems.{takes_formula}
use Rattle.inputs.specs.Said.{Said, NotHeld, Refuses, Denoted, and_then, read_said}
use Rattle.inputs.specs.Sources.{Sources}
use Rattle.inputs.specs.Texts.{text_said, game_said, labels_said, owners_said}
use Rattle.inputs.specs.Posed.{formula_read, Reading, reading_with, behind_owners, behind_labels, behind_game}
use Rattle.inputs.specs.Posed.{reading_said, posed_by, nested_posed, any_posed, where_taken, posed, problem_said}
use Rattle.inputs.specs.Asks.{GivenTextWith, AreOwners, Asks}
use Rattle.inputs.proofs.Lengths.{short_says, says_short}

-- what is said behind something is said behind what it says
pub behind : {X Y : Type 0} (said : Said X) (next : X → Said Y) (y : Y) → and_then said next ≡ Denoted y
    → (x : X) × (said ≡ Denoted x) × (next x ≡ Denoted y)
behind NotHeld next y is = cc (is)
behind (Refuses refusal) next y is = cc (is)
behind (Denoted x) next y is = (x, refl, is)

-- what a reader says was read
was_read : {X F : Type 0} (refusal : F → Refusal) (result : Result X F) (x : X)
    → read_said refusal result ≡ Denoted x → result ≡ Ok x
was_read refusal (Ok y) x is = let same : y ≡ x = cc (is) in ap (λ v. Ok v) same
was_read refusal (Err fault) x is = cc (is)

-- 1. A text.

-- what is read of a text is true of it
pub text_is : {X F : Type 0} (text : Text) (refusal : F → Refusal) (read : List ℕ → Result X F)
    (IsSo : List ℕ → X → Type 0)
    (source : Option (List ℕ)) (x : X) → ((bytes : List ℕ) → read bytes ≡ Ok x → IsSo bytes x)
    → and_then (text_said text source) (λ bytes. read_said refusal (read bytes)) ≡ Denoted x
    → GivenTextWith source (λ bytes. IsSo bytes x)
text_is text refusal read IsSo source x found is =
    let r = behind (text_said text source) (λ bytes. read_said refusal (read bytes)) x is in
    let held = says_short text source r.0 r.1 in
    record { text = r.0; given = held.0; short = held.1; is_so = found r.0 (was_read refusal (read r.0) x r.2) }

-- and what is true of it is read
pub is_text : {X F : Type 0} (text : Text) (refusal : F → Refusal) (read : List ℕ → Result X F)
    (IsSo : List ℕ → X → Type 0) (source : Option (List ℕ)) (x : X)
    → ((bytes : List ℕ) → IsSo bytes x → read bytes ≡ Ok x) → GivenTextWith source (λ bytes. IsSo bytes x)
    → and_then (text_said text source) (λ bytes. read_said refusal (read bytes)) ≡ Denoted x
is_text text refusal read IsSo source x again is =
    let next = λ (bytes : List ℕ). read_said refusal (read bytes) in
    ap (λ s. and_then (text_said text s) next) is.given ∙ ap (λ s. and_then s next) (short_says text is.text is.short)
    ∙ ap (read_said refusal) (again is.text is.is_so)

pub owners_are : (name source : Option (List ℕ)) (states : ℕ) (owners : Ownership)
    → owners_said name source states ≡ Denoted owners → AreOwners name source states owners
owners_are None source states owners is = cc (is)
owners_are (Some name) source states owners is = text_is Own OfOwn (λ bytes. owners_of bytes states)
    (λ bytes o. DenotesOwners bytes states o) source owners (λ bytes. owners_of-found bytes states owners) is

pub are_owners : (name source : Option (List ℕ)) (states : ℕ) (owners : Ownership) → AreOwners name source states owners
    → owners_said name source states ≡ Denoted owners
are_owners None source states owners is = ap (λ o. Denoted o) (sym is)
are_owners (Some name) source states owners is = is_text Own OfOwn (λ bytes. owners_of bytes states)
    (λ bytes o. DenotesOwners bytes states o) source owners (λ bytes. owners_of-again bytes states owners) is

-- 2. The formula.

formula_is : (text : List ℕ) (tree : Tree) → formula_read text ≡ Denoted tree → DenotesFormula text tree
formula_is text tree is = formula_denoted text tree (was_read OfFormula (formula_said text) tree is)

is_formula : (text : List ℕ) (tree : Tree) → DenotesFormula text tree → formula_read text ≡ Denoted tree
is_formula text tree denotes = ap (read_said OfFormula) (formula_said_again text tree denotes)

-- 3. The problem.

-- what is posed of a reader's answer
posed_ok : {X F : Type 0} (refusal : F → Refusal) (result : Result X F) (make : X → Problem) (problem : Problem)
    → and_then (read_said refusal result) (λ x. Denoted (make x)) ≡ Denoted problem
    → (x : X) × (result ≡ Ok x) × (make x ≡ problem)
posed_ok refusal (Ok x) make problem is = (x, refl, cc (is))
posed_ok refusal (Err fault) make problem is = cc (is)

-- one of two problems
not_flat : (flat : Bool) → flat ≡ false → ¬ (flat ≡ true)
not_flat flat is so = cc (is, so)

is_not_flat : (flat : Bool) → ¬ (flat ≡ true) → flat ≡ false
is_not_flat true wrong = absurd (wrong refl)
is_not_flat false wrong = refl

module _ (game : List (List Distribution)) (labels : Labelling) (owners : Ownership) where
  abbrev model : Model
  model = record { game = game; labels = labels; owners = owners }

  -- what is to be reached, by the kind of the paths
  abbrev IsReachBy : Tree → Posing → PathKind → Type 0
  IsReachBy formula p kind = IsReaching kind × Poses game labels owners (answered_by kind formula) p

  reaches : (formula : Tree) (p : Posing) {kind other : PathKind} → kind ≡ other → IsReachBy formula p kind
      → IsReachBy formula p other
  reaches formula p same is = subst (IsReachBy formula p) same is

  poses_by : (kind : PathKind) (formula : Tree) (problem : Problem) → IsFlat formula
      → formula.kind ≡ kind → posed_by kind (reading_with game labels owners formula) ≡ Denoted problem
      → PosesProblem game labels owners formula problem
  poses_by Until formula problem flat of is =
      let r = posed_ok OfQuestion (pose_said game labels owners formula) OfReach problem is in
      let at = reaches formula r.0 (sym of) (tt, pose-found game labels owners formula r.0 flat r.1) in
      subst (PosesProblem game labels owners formula) r.2 (flat, at.0, at.1)
  poses_by (Within k) formula problem flat of is =
      let r = posed_ok OfQuestion (pose_said game labels owners formula) (OfWithin k) problem is in
      subst (PosesProblem game labels owners formula) r.2 (flat, of, pose-found game labels owners formula r.0 flat r.1)
  poses_by Next formula problem flat of is =
      let r = posed_ok OfQuestion (pose_next_said game labels owners formula) OfNext problem is in
      subst (PosesProblem game labels owners formula) r.2
      (flat, of, pose_next-found game labels owners formula r.0 flat r.1)
  poses_by Always formula problem flat of is =
      let r = posed_ok OfQuestion (pose_said game labels owners (dual_of formula)) OfReach problem is in
      let right = (and_parts (is_flat formula.left) (is_flat formula.right) flat).1 in
      let at = reaches formula r.0 (sym of) (tt, pose-found game labels owners (dual_of formula) r.0 right r.1) in
      subst (PosesProblem game labels owners formula) r.2 (flat, at.0, at.1)

  -- with formulas inside, or with none
  any_poses : (formula : Tree) (problem : Problem) (flat : Bool)
      → (is_flat formula.left && is_flat formula.right) ≡ flat
      → cond flat (posed_by formula.kind (reading_with game labels owners formula))
      (nested_posed (reading_with game labels owners formula)) ≡ Denoted problem
      → PosesProblem game labels owners formula problem
  any_poses formula problem true of is = poses_by formula.kind formula problem of refl is
  any_poses formula problem false of is =
      let r = posed_ok OfQuestion (initial_said labels owners formula) (OfNested model) problem is in
      subst (PosesProblem game labels owners formula) r.2
      (not_flat (is_flat formula.left && is_flat formula.right) of, refl, initial-found labels owners formula r.0 r.1)

  abbrev any_by : Tree → Bool → Said Problem
  any_by formula flat = cond flat (posed_by formula.kind (reading_with game labels owners formula))
      (nested_posed (reading_with game labels owners formula))

  flat_again : (formula : Tree) (problem : Problem) → IsFlat formula
      → posed_by formula.kind (reading_with game labels owners formula) ≡ Denoted problem
      → any_posed (reading_with game labels owners formula) ≡ Denoted problem
  flat_again formula problem flat is = ap (any_by formula) flat ∙ is

  reach_again : (kind : PathKind) (formula : Tree) (p : Posing) → IsReachBy formula p kind
      → posed_by kind (reading_with game labels owners formula) ≡ Denoted (OfReach p)
  reach_again Until formula p (reaching, poses) = ap (λ r. and_then (read_said OfQuestion r) (λ x. Denoted (OfReach x)))
      (pose-again game labels owners formula p poses)
  reach_again (Within k) formula p (wrong, poses) = absurd wrong
  reach_again Next formula p (wrong, poses) = absurd wrong
  reach_again Always formula p (reaching, poses) =
      ap (λ r. and_then (read_said OfQuestion r) (λ x. Denoted (OfReach x)))
      (pose-again game labels owners (dual_of formula) p poses)

  posed_again : (formula : Tree) (problem : Problem) → PosesProblem game labels owners formula problem
      → any_posed (reading_with game labels owners formula) ≡ Denoted problem
  posed_again formula (OfReach p) (flat, reaching, poses) =
      flat_again formula (OfReach p) flat (reach_again formula.kind formula p (reaching, poses))
  posed_again formula (OfWithin k p) (flat, of, poses) = flat_again formula (OfWithin k p) flat
      (rw of (ap (λ r. and_then (read_said OfQuestion r) (λ x. Denoted (OfWithin k x)))
      (pose-again game labels owners formula p poses)))
  posed_again formula (OfNext p) (flat, of, poses) =
      flat_again formula (OfNext p) flat (rw of (ap (λ r. and_then (read_said OfQuestion r) (λ x. Denoted (OfNext x)))
      (pose_next-again game labels owners formula p poses)))
  posed_again formula (OfNested m initial) (nested, of, begins) =
      ap (any_by formula) (is_not_flat (is_flat formula.left && is_flat formula.right) nested)
      ∙ (ap (λ r. and_then (read_said OfQuestion r) (λ x. Denoted (OfNested model x)))
      (initial-again labels owners formula initial begins)
      ∙ ap (λ m. Denoted (OfNested m initial)) (sym of))

-- a problem that is said is taken
was_taken : (taken : Bool) (problem other : Problem) → cond taken (Denoted problem) (Refuses WrongKind) ≡ Denoted other
    → (taken ≡ true) × (problem ≡ other)
was_taken true problem other is = (refl, cc (is))
was_taken false problem other is = cc (is)

-- texts and a formula that are read, and pose the problem, ask it
asks_read : (paths : Paths) (sources : Sources) (asked : Asked) (problem : Problem)
    (game : List (List Distribution)) (labels : Labelling) (owners : Ownership) (formula : Tree) (reading : Reading)
    → game_said sources.tra ≡ Denoted game → labels_said sources.lab (length game) ≡ Denoted labels
    → owners_said asked.own sources.own (length game) ≡ Denoted owners → formula_read asked.formula ≡ Denoted formula
    → Denoted (reading_with game labels owners formula) ≡ Denoted reading → posed paths reading ≡ Denoted problem
    → Asks paths sources asked problem
asks_read paths sources asked problem game labels owners formula reading of_tra of_lab of_own of_formula whole poses =
    let is : reading_with game labels owners formula ≡ reading = cc (whole) in
    let P : Reading → Type 0 = λ r. posed paths r ≡ Denoted problem in
    let said : posed paths (reading_with game labels owners formula) ≡ Denoted problem = subst P (sym is) poses in
    let r = behind (any_posed (reading_with game labels owners formula))
    (λ p. where_taken (takes_formula paths formula) p) problem said in
    let taken = was_taken (takes_formula paths formula) r.0 problem r.2 in
    record {
      game = game;
      labels = labels;
      owners = owners;
      formula = formula;
      tra = text_is Tra OfTra game_of (λ bytes g. DenotesGame bytes g) sources.tra game
          (λ bytes. text_found number-found choice-found bytes game) of_tra;
      lab = text_is Lab OfLab (λ bytes. labels_of bytes (length game)) (λ bytes l. DenotesLabels bytes (length game) l)
          sources.lab labels (λ bytes. labels_of-found bytes (length game) labels) of_lab;
      own = owners_are asked.own sources.own (length game) owners of_own;
      spelled = formula_is asked.formula formula of_formula;
      poses = subst (PosesProblem game labels owners formula) taken.1
          (any_poses game labels owners formula r.0 (is_flat formula.left && is_flat formula.right) refl r.1);
      taken = taken.0;
    }

-- the problem that is said is asked
pub said_asks : (paths : Paths) (sources : Sources) (asked : Asked) (problem : Problem)
    → problem_said paths sources asked ≡ Denoted problem → Asks paths sources asked problem
said_asks paths sources asked problem is =
    let whole = behind (reading_said sources asked) (λ reading. posed paths reading) problem is in
    let of_tra = behind (game_said sources.tra) (λ game. behind_game sources asked game) whole.0 whole.1 in
    let of_lab = behind (labels_said sources.lab (length of_tra.0))
    (λ labels. behind_labels sources asked of_tra.0 labels) whole.0 of_tra.2 in
    let of_own = behind (owners_said asked.own sources.own (length of_tra.0))
    (λ owners. behind_owners asked of_tra.0 of_lab.0 owners) whole.0 of_lab.2 in
    let of_formula = behind (formula_read asked.formula)
    (λ formula. Denoted (reading_with of_tra.0 of_lab.0 of_own.0 formula)) whole.0 of_own.2 in
    asks_read paths sources asked problem of_tra.0 of_lab.0 of_own.0 of_formula.0 whole.0 of_tra.1 of_lab.1 of_own.1
    of_formula.1 of_formula.2 whole.2

-- and the problem that is asked is said
pub asks_said : (paths : Paths) (sources : Sources) (asked : Asked) (problem : Problem)
    → Asks paths sources asked problem → problem_said paths sources asked ≡ Denoted problem
asks_said paths sources asked problem asks =
    let of_tra = is_text Tra OfTra game_of (λ bytes g. DenotesGame bytes g) sources.tra asks.game
    (λ bytes. text_again number-again choice-again bytes asks.game) asks.tra in
    let of_lab = is_text Lab OfLab (λ bytes. labels_of bytes (length asks.game))
    (λ bytes l. DenotesLabels bytes (length asks.game) l) sources.lab asks.labels
    (λ bytes. labels_of-again bytes (length asks.game) asks.labels) asks.lab in
    let of_own = are_owners asked.own sources.own (length asks.game) asks.owners asks.own in
    let of_formula = is_formula asked.formula asks.formula asks.spelled in
    let read : reading_said sources asked ≡ Denoted (reading_with asks.game asks.labels asks.owners asks.formula) =
    ap (λ s. and_then s (λ game. behind_game sources asked game)) of_tra
    ∙ ap (λ s. and_then s (λ labels. behind_labels sources asked asks.game labels)) of_lab
    ∙ ap (λ s. and_then s (λ owners. behind_owners asked asks.game asks.labels owners)) of_own
    ∙ ap (λ s. and_then s (λ formula. Denoted (reading_with asks.game asks.labels asks.owners formula))) of_formula
    in
    ap (λ s. and_then s (λ reading. posed paths reading)) read
    ∙ ap (λ s. and_then s (λ p. where_taken (takes_formula paths asks.formula) p))
    (posed_again asks.game asks.labels asks.owners asks.formula problem asks.poses)
    ∙ ap (λ (b : Bool). cond b (Denoted problem) (Refuses WrongKind)) asks.taken
