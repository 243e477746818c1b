-- Words that denote a command on rewards denote no other command.
use Rattle.std.proofs.Common.{◌≡◌, ◌∙◌, ◌||◌, Bool, false, true≢false, List, [], ◌∷◌, length, codes, Option}
use Rattle.std.proofs.Common.{Some, None, IfSome, fold, is_some, refl, sym, ap, subst, arith, bytes_eq}
use Rattle.clap.specs.Lexer.{long_of}
use Rattle.clap.specs.Words.{Text, fault_of, first_of}
use Rattle.clap.specs.Kinds.{Kinds, or_else}
use Rattle.clap.specs.Faults.{turn_fault, walk_fault}
use Rattle.clap.specs.Simple.{Shape, built}
use Rattle.clap.specs.Walk.{Rule, Walk, arg_by_long, nothing_held, rows_after, walk_from, walked}
use Rattle.clap.specs.declared.error.kind.ErrorKind.TheVariants as kind
use Rattle.command_words.specs.Grammar.{audit_app, solve_app, value_of}
use Rattle.command_words.specs.Words.{Command, OfAudit, OfSolve, AreCommand, AreNoCommand, AreWordsOf, name_of}
use Rattle.command_words.proofs.Naming.{begun, first_byte, second_byte}
use Rattle.reward_words.specs.Grammar.{audit_reward_app, solve_reward_app}
use Rattle.reward_words.specs.Words.{RewardCommand, OfAuditReward, OfSolveReward, AreRewardWordsOf, DenoteRewardCommand}
use Rattle.reward_words.specs.Words.{reward_name_of}
use Rattle.reward_words.proofs.ApartRules.{AreApart}
use Rattle.reward_words.proofs.Unnamed.{IsOtherHeld, IsOtherWalk, NamesOther, no_subcommand, nothing_found, turn}

first_kinds : (a b : Kinds) → or_else a b ≡ [] → a ≡ []
first_kinds [] b e = refl
first_kinds (k ∷ ks) b e = e

some_kind : (k : _) (ks : Kinds) → k ∷ ks ≡ [] → ⊥
some_kind k ks e = omega (arith, ap length e)

last_kinds : (a b : Kinds) → or_else a b ≡ [] → b ≡ []
last_kinds [] b e = e
last_kinds (k ∷ ks) b e = absurd (some_kind k ks e)

-- a command that knows an option only by its long name, and one that does not know it
module _ (name : Text) (s : Shape) (c : List Rule) (of_s : AreApart name s.rules) (of_c : AreApart name c)
    (unknown : arg_by_long s.rules name ≡ None) where
  -- the other command refuses a word that names the option
  refused : (w : Walk) (word : Text) (v : Option Text) → w.stopped ≡ None → w.is_trailing ≡ false
      → bytes_eq word (45 ∷ 45 ∷ []) ≡ false → long_of word ≡ Some (name, v)
      → turn_fault s [] w word ≡ [] → ⊥
  refused w word v stopped t dashes long none =
      let bad : turn_fault s [] w word ≡ kind.UnknownArgument ∷ [] =
      rw (stopped, t, no_subcommand w.waiting word, dashes, long, unknown) refl in
      some_kind kind.UnknownArgument [] (sym bad ∙ none)

  named : (w v : Walk) (word : Text) → w.stopped ≡ None → w.is_trailing ≡ v.is_trailing
      → turn_fault s [] w word ≡ [] → NamesOther name v word
  named w v word stopped same none t dashes = go (long_of word) refl
    where
      go : (found : Option (Text × Option Text)) → long_of word ≡ found → IfSome found (λ p. p.0 ≡ name → ⊥)
      go None e = tt
      go (Some p) e = λ is. refused w word p.1 stopped (same ∙ t) dashes
          (e ∙ ap (λ (n : Text). Some (n, p.1)) is) none

  walks : (words : List Text) (w v : Walk) → IsOtherWalk name w → IsOtherWalk name v → w.is_trailing ≡ v.is_trailing
      → walk_fault s [] w words ≡ [] → IsOtherHeld name (fold (walked c []) v words).held
  unfolding walk_fault
  walks [] w v of_w of_v same none = of_v.held
  walks (word ∷ words) w v of_w of_v same none =
      let first = first_kinds (turn_fault s [] w word) (walk_fault s [] (walked s.rules [] w word) words) none in
      let rest = last_kinds (turn_fault s [] w word) (walk_fault s [] (walked s.rules [] w word) words) none in
      let one = turn name s.rules of_s w word of_w (named w w word of_w.stopped refl first) in
      let two = turn name c of_c v word of_v (named w v word of_w.stopped same first) in
      walks words (walked s.rules [] w word) (walked c [] v word) one.0 two.0
      (one.1 ∙ ap (λ (b : Bool). b || bytes_eq word (45 ∷ 45 ∷ [])) same ∙ sym two.1) rest

  pub none_found : (words : List Text) → walk_fault s [] (walk_from nothing_held) words ≡ []
      → first_of name (rows_after c [] words) ≡ None
  none_found words none =
      let begins : IsOtherWalk name (walk_from nothing_held) =
      record { held = record { rows = tt; pending = tt }; waiting = tt; stopped = refl } in
      nothing_found name c of_c _
      (walks words (walk_from nothing_held) (walk_from nothing_held) begins begins refl none)

-- the words of a command on rewards give the option a value, and then the other command refuses them
audit_apart : (words : List Text) (file : Text) → fault_of audit_app words ≡ []
    → value_of audit_reward_app words (codes "rewards") ≡ Some file → ⊥
audit_apart words file taken given =
    let none = none_found (codes "rewards") (built audit_app).top (built audit_reward_app).top.rules
    (record { quiet = refl; apart = refl }) (record { quiet = refl; apart = refl }) refl words
    (first_kinds (walk_fault (built audit_app).top [] (walk_from nothing_held) words) _ taken) in
    true≢false (ap is_some (sym given ∙ none))

solve_apart : (words : List Text) (file : Text) → fault_of solve_app words ≡ []
    → value_of solve_reward_app words (codes "rewards") ≡ Some file → ⊥
solve_apart words file taken given =
    let none = none_found (codes "rewards") (built solve_app).top (built solve_reward_app).top.rules
    (record { quiet = refl; apart = refl }) (record { quiet = refl; apart = refl }) refl words
    (first_kinds (walk_fault (built solve_app).top [] (walk_from nothing_held) words) _ taken) in
    true≢false (ap is_some (sym given ∙ none))

not_other : (words : List Text) (reward : RewardCommand) (command : Command) → name_of command ≡ reward_name_of reward
    → AreRewardWordsOf reward words → AreWordsOf command words → ⊥
not_other words (OfAuditReward reward) (OfAudit audit) same are of_audit =
    audit_apart words reward.rewards of_audit.taken are.said.rewards.given
not_other words (OfSolveReward reward) (OfSolve solve) same are of_solve =
    solve_apart words reward.rewards of_solve.taken are.said.rewards.given
not_other words reward command same are of_command = absurd (omega (arith, first_byte same, second_byte same))

pub no_other_command : (words : List Text) → DenoteRewardCommand words → AreNoCommand words
no_other_command words (reward, are) command of_command =
    let parts = begun (reward_name_of reward) are.rest command
    (subst (λ (ws : List Text). AreCommand ws command) are.words_are of_command) in
    not_other are.rest reward command parts.0 are.behind parts.1
