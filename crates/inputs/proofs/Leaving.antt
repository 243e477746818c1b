-- What loading does to a shelf, from what its parts do.
use Rattle.std.proofs.Common.{◌≡◌, ◌≤◌, inl, inr, ℕ, Bool, Option, Result, Ok, Err, ap, arith, ◌∙◌}
use Rattle.std.specs.Prelude.{IsErrOf}
use Rattle.text_lines.specs.Limits.{most_bytes}
use Rattle.game_outside.specs.Outside.{Holding}
use Rattle.output.specs.declared.refusal.Refusal.TheVariants.{TooLong}
use Rattle.inputs.specs.declared.load.End.{End}
use Rattle.inputs.specs.declared.load.End.TheVariants.{Refused, ReadFault, OutOfMemory}
use Rattle.inputs.specs.Loading.{IsTooLong, LoadingLeaves, Takes}

-- no more than the limit is taken of what is loaded
pub answer_small : {X : Type 0} (x : X) (taken : ℕ) → Takes {X = X} (Ok x) taken → taken ≤ most_bytes
answer_small x taken takes = grind arith

-- an end is the same of another answer
pub other_end : {X Y : Type 0} (end other : End) → ◌≡◌ {A = Result X End} (Err end) (Err other)
    → ◌≡◌ {A = Result Y End} (Err end) (Err other)
other_end end other is = let same : end ≡ other = cc (is) in ap (λ (e : End). Err e) same

end_takes : {X Y : Type 0} (end : End) (taken : ℕ) → Takes {X = X} (Err end) taken → Takes {X = Y} (Err end) taken
end_takes {X} {Y} end taken takes = record {
  most = takes.most;
  too_long = λ long. takes.too_long (long.0, other_end end (Refused (TooLong long.0)) long.1);
  only_too_long = λ above. elim (takes.only_too_long above) [
    | inl long ↦ inl (long.0, other_end end (Refused (TooLong long.0)) long.1)
    | inr memory ↦ inr (other_end end OutOfMemory memory)
  ];
}

module _ {S X Y : Type 0} {held : S → Option Holding} {steady : S → Bool} {faults took : S → ℕ} {old new : S} where
  -- behind what was loaded nothing is asked of the shelf
  pub answer_leaves : (result : Result Y End) (x : X) → (IsErrOf result ReadFault → ⊥) → (IsTooLong result → ⊥)
      → LoadingLeaves held steady faults took old new (Ok x) → LoadingLeaves held steady faults took old new result
  answer_leaves result x read short leaves =
      let small = answer_small x (took new) leaves.takes in
      record {
        read_fault = λ fails. absurd (read fails);
        takes = record {
          most = omega (arith, small);
          too_long = λ long. absurd (short long);
          only_too_long = λ above. absurd (omega (arith, small, above));
        };
        kept = leaves.kept;
      }

  -- an end is handed on
  pub end_leaves : (end : End) → LoadingLeaves {X = X} held steady faults took old new (Err end)
      → LoadingLeaves {X = Y} held steady faults took old new (Err end)
  end_leaves end leaves = record {
    read_fault = λ fails. leaves.read_fault (other_end end ReadFault fails);
    takes = end_takes end (took new) leaves.takes;
    kept = leaves.kept;
  }

-- more is loaded
pub both_leave : {S X Y : Type 0} {held : S → Option Holding} {steady : S → Bool}
    {faults took : S → ℕ} {old middle new : S} {first : Result X End} {result : Result Y End}
    → LoadingLeaves held steady faults took old middle first → LoadingLeaves held steady faults took middle new result
    → LoadingLeaves held steady faults took old new result
both_leave leaves rest = record {
  read_fault = λ fails. omega (arith, leaves.kept.later, rest.read_fault fails);
  takes = rest.takes;
  kept = record {
    held = rest.kept.held ∙ leaves.kept.held;
    steady = rest.kept.steady ∙ leaves.kept.steady;
    later = omega (arith, leaves.kept.later, rest.kept.later);
  };
}
