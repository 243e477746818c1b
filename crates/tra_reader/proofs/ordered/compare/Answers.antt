use Rattle.std.proofs.Common.{rules, ◌≡◌, ◌∙◌, ◌<◌, ℕ, List, length, not, sym, ap, arith}
use Rattle.std.specs.Str.{bytes_eq}
use Rattle.tra_reader.specs.inside.GrowingGames.{place_under_way}
use Rattle.tra_reader.proofs.UnderWay.{same_choice, later_choice, first_choice, no_parts}
use Rattle.tra_reader.proofs.ordered.compare.Goals.{else-has_begun-via-then-has_begun+else-place}
use Rattle.tra_reader.proofs.ordered.compare.Goals.{else-has_begun-via-else-has_begun}
use Rattle.tra_reader.proofs.ordered.compare.Goals as goal

pub returns-then-place : goal.returns-then-place
returns-then-place c = λ n rows row at is holds keeps.
    let begun : 0 < length c.args.game.now.parts = search rules in
    let same : c.args.place ≡ place_under_way c.args.game.now = search rules in
    let compared : c.ne.result ≡ not (bytes_eq c.args.kept.now.items c.args.action.now) = search rules in
    same_choice rows row (place_under_way c.args.game.now) c.args.kept.now.items c.ne.result (at ∙ same) (keeps begun)
    (compared ∙ ap (λ (a : List ℕ). not (bytes_eq c.args.kept.now.items a)) (sym is))

pub returns : goal.returns
returns c = λ n rows row at is holds keeps.
    let kept : c.extend_from_slice.new.self.items ≡ c.args.action.now = search rules in
    elim c.else-has_begun.branch [
      | else-has_begun-via-then-has_begun+else-place w ↦
          later_choice c.args.game.now n rows row c.extend_from_slice.new.self.items holds
          (omega (arith, at, c.requires, w.if-place.false, w.place.ensures)) (kept ∙ sym is)
      | else-has_begun-via-else-has_begun w ↦
          first_choice c.args.game.now n rows row c.extend_from_slice.new.self.items holds
          (no_parts c.args.game.now.parts c.has_begun.result w.if-has_begun.false c.has_begun.ensures) (kept ∙ sym is)
    ]
