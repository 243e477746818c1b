-- Truth values and entries that are chosen by them.
use Rattle.std.proofs.Common.{◌≡◌, Bool, true, false, refl, inl, inr, ◌⊎◌, not}
use Rattle.std.specs.Prelude.{◌&&◌, ◌||◌}
use Rattle.game_model.specs.declared.game.Side.{Side}
use Rattle.game_model.specs.declared.game.Side.TheVariants.{Max, Min}

pub or-left : (a b : Bool) → (a || b) ≡ false → a ≡ false
or-left true b h = absurd (cc)
or-left false b h = refl

pub or-right : (a b : Bool) → (a || b) ≡ false → b ≡ false
or-right true b h = absurd (cc)
or-right false b h = h

pub or-in : (a b : Bool) → a ≡ true → (a || b) ≡ true
or-in true b h = refl
or-in false b h = absurd (cc)

pub or-new : (a b : Bool) → a ≡ false → (a || b) ≡ true → b ≡ true
or-new true b h k = absurd (cc)
or-new false b h k = k

pub and-second : (a b : Bool) → a ≡ true → (a && b) ≡ false → b ≡ false
and-second true b h k = k
and-second false b h k = absurd (cc)

pub and-last : (a b : Bool) → (a && b) ≡ true → b ≡ true
and-last true b h = h
and-last false b h = absurd (cc)

pub not-in : (a b : Bool) → a ≡ not b → a ≡ false → b ≡ true
not-in a true h k = refl
not-in a false h k = absurd (cc)

pub not-out : (a b : Bool) → a ≡ not b → a ≡ true → b ≡ false
not-out a true h k = absurd (cc)
not-out a false h k = refl

pub no-goal : (goal dead : Bool) → (goal ≡ true → dead ≡ false) → dead ≡ true → goal ≡ false
no-goal true dead h is = let no : dead ≡ false = h refl in absurd (cc)
no-goal false dead h is = refl

pub cases_side : (side : Side) → (side ≡ Max) ⊎ (side ≡ Min)
cases_side Max = inl refl
cases_side Min = inr refl
