use Rattle.std.proofs.Common.{◌≡◌, ℕ, arith, refl, sym, ◌∙◌, Option, Some, None}
use Rattle.std.specs.Prelude.{slice_index, MatchOption, IsSomeAnd}
use Rattle.std.proofs.lemmas.Bool.{both_ways}
use Rattle.game_model.specs.declared.game.Side.TheVariants.{Max, Min}
use Rattle.inductive_check.specs.Held.{NoneHeld, IsFirstHeld}
use Rattle.inductive_check.specs.Replies.{NeedsReply}
use Rattle.inductive_check.proofs.Entries.{none-held}
use Rattle.inductive_check.proofs.reply.reply_of.Goals as goal

some-found : (found : Option ℕ) (P : Type 0) (Q : ℕ → Type 0) → ¬ P → MatchOption found P Q → IsSomeAnd found Q
some-found None P Q some h = absurd (some h)
some-found (Some x) P Q some h = h

pub returns : goal.returns
returns c =
    let q = c.args.question.now in
    let v = slice_index c.args.upper.now in
    let needs : NeedsReply q c.args.state = c.if-not-needs_reply.ensures.0 refl in
    let some : ¬ NoneHeld q v c.args.state = λ none. omega (
      arith,
      none-held q v c.args.state c.invariant.ensures c.requires.state needs.free none,
      c.requires.inductive c.args.state c.requires.state,
    ) in
    record {
      first = λ _. some-found c.first_held.result (NoneHeld q v c.args.state)
          (IsFirstHeld q v c.args.state) some c.first_held.ensures;
      none_at_goals = λ goal. absurd (both_ways _ needs.free.0 goal);
      none_at_deads = λ dead. absurd (both_ways _ needs.free.1 dead);
      none_at_greatest = λ greatest. let sides : Max ≡ Min = sym greatest ∙ needs.least in (cc sides);
    }
