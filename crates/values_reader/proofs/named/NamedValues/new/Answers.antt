use Rattle.std.proofs.Common.{rules}
use Rattle.values_reader.proofs.Values.{zeros_are_probabilities}
use Rattle.values_reader.proofs.named.NamedValues.new.Goals as goal

pub invariant_of-result : goal.invariant_of-result
unfolding lib.Ieee.of_bits lib.Ieee.is_nan
invariant_of-result c = record {
  marks = search rules;
  entries = search rules;
  bounds = zeros_are_probabilities c.args.states c.in_ok-values.values.items
      (c.in_ok-values.ensures.items_if_clones_equal (λ y h. h));
}
