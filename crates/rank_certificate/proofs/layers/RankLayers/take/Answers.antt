use Rattle.std.proofs.Common.{ℕ, arith, refl, sym, subst}
use Rattle.rank_certificate.specs.inside.RankLayers.{HasRankWithin}
use Rattle.rank_certificate.specs.inside.OfAsked.{value_in, only_in, CarriesIn, IsFirstCarryingIn}
use Rattle.rank_certificate.proofs.Followed.{Follows-idle, Follows-look, first-taken, taken-looks}
use Rattle.rank_certificate.proofs.layers.RankLayers.take.Goals as goal

pub returns-then-not-carries : goal.returns-then-not-carries
returns-then-not-carries c =
    let a = c.args.asked.now in
    let idle : ¬ CarriesIn a (HasRankWithin c.args.self.now.ranks.items c.args.level) c.args.step.state
    c.args.step.choice =
    rw c.deref.ensures.value at
    (λ (carried : CarriesIn a (HasRankWithin c.deref.result.now c.args.level) c.args.step.state c.args.step.choice).
    let is = c.carries.ensures.1 carried in
    let no : ⊥ = grind (arith, is, c.if-not-carries.true) in
    no) in
    Follows-idle a.question.now (value_in a)
    (only_in a) c.args.level c.args.hand c.args.step _ _ _ a.posed c.requires.state c.requires.choice idle

pub returns : goal.returns
returns c =
    let a = c.args.asked.now in
    let q = a.question.now in
    let s : ℕ = c.args.step.state in
    let old = c.args.self.now in
    let among = HasRankWithin old.ranks.items c.args.level in
    let carried : CarriesIn a among s c.args.step.choice =
    rw c.deref.ensures.value at (c.if-not-carries.ensures.0 refl) in
    let first : IsFirstCarryingIn a among s c.unwrap_or.result =
    subst (IsFirstCarryingIn a among s) (sym c.unwrap_or.ensures) (first-taken q (value_in a)
    (only_in a) among s c.args.step.choice c.requires.choice carried c.first_carrying-earlier.result
    (rw c.deref-2.ensures.value at c.first_carrying-earlier.ensures)) in
    Follows-look q (value_in a) (only_in a) c.args.level c.args.hand c.args.step _ _ _ _ _ _ a.posed c.requires.state
    (taken-looks q (value_in a) (only_in a) c.args.level s c.unwrap_or.result old.ranks.items old.choices.items
    old.order.items _ _ _ c.requires.side c.requires.none first c.in_ok-join.ensures.ranks c.in_ok-join.ensures.choices
    c.in_ok-join.ensures.order)
