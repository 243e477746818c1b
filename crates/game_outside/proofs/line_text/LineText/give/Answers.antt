use Rattle.std.proofs.Common.{rules, ◌+◌, ap, ◌∙◌, drop}
use Rattle.game_outside.proofs.Endings.{cut_at_lf, without_lf, drop_held}
use Rattle.game_outside.proofs.line_text.LineText.give.Goals as goal

pub returns-in_ok-extend_from_slice-in-Some-clause-lf : goal.returns-in_ok-extend_from_slice-in-Some-clause-lf
returns-in_ok-extend_from_slice-in-Some-clause-lf c is =
    cut_at_lf _ _ _ _ c.in-Some.place (search rules) (search rules)
    (drop_held c.self.inside.piece.items c.self.inside.begin c.self.inside.end (c.in-Some.place + 1) (search rules)
    ∙ ap (λ held. drop (c.in-Some.place + 1) held) (search rules))

pub returns-in_ok-extend_from_slice-in-None-clause-none : goal.returns-in_ok-extend_from_slice-in-None-clause-none
returns-in_ok-extend_from_slice-in-None-clause-none c is =
    without_lf _ _ _ _ (search rules) (search rules) (search rules)
