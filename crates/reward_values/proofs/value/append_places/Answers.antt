use Rattle.std.proofs.Common.{◌≡◌, ◌∙◌, ◌++◌, length, drop, arith, ap, subst}
use Rattle.std.specs.Prelude.{OnOk}
use Rattle.std.proofs.lemmas.List.{take_rest}
use Rattle.reward_values.proofs.Digits.{behind_one}
use Rattle.reward_values.proofs.value.append_places.Goals as goal

pub slice_bounds-append-count : goal.slice_bounds-append-count
slice_bounds-append-count c =
    let digits = behind_one c.args.places c.args.units c.units_of_one.result c.as_bytes-digits.result.now
    c.requires.places c.requires.part c.units_of_one.ensures.power
    (c.as_bytes-digits.ensures.value ∙ c.format.ensures.text) in
    omega (arith, ap length digits)

pub slice_bounds-append-start : goal.slice_bounds-append-start
slice_bounds-append-start c =
    let digits = behind_one c.args.places c.args.units c.units_of_one.result c.as_bytes-digits.result.now
    c.requires.places c.requires.part c.units_of_one.ensures.power
    (c.as_bytes-digits.ensures.value ∙ c.format.ensures.text) in
    omega (arith, ap length digits)

pub returns : goal.returns
returns c =
    let digits = behind_one c.args.places c.args.units c.units_of_one.result c.as_bytes-digits.result.now
    c.requires.places c.requires.part c.units_of_one.ensures.power
    (c.as_bytes-digits.ensures.value ∙ c.format.ensures.text) in
    subst (λ bytes. OnOk c.append.result (c.append.new.text.items ≡ c.args.text.now.items ++ bytes))
    (take_rest c.as_bytes-digits.result.now 1 ∙ ap (drop 1) digits) c.append.ensures
