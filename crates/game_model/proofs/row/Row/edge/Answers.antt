use Rattle.std.proofs.Common.{arith, ◌+◌, ◌*◌, ◌^◌, ap, ◌∙◌, ◌<◌, length}
use Rattle.std.specs.Prelude.{slice_index}
use Rattle.game_model.proofs.Rows.{bound-inside, edges-count, edge-in}
use Rattle.game_model.proofs.row.Row.edge.Goals as goal

pub bounds-self-inside-choice : goal.bounds-self-inside-choice
bounds-self-inside-choice c = omega (arith, bound-inside _ _ _ _ _ _ c.self.view_is _ c.requires.choice)

pub bounds-self-inside-at : goal.bounds-self-inside-at
bounds-self-inside-at c =
    let inside : c.args.choice + 1 < length c.self.inside.bounds.now =
    bound-inside _ _ _ _ _ _ c.self.view_is _ c.requires.choice in
    omega (
      arith,
      c.requires.place,
      edges-count _ _ _ _ _ _ c.self.view_is _ c.requires.choice,
      c.self.invariant.to_within _ inside,
    )

pub bounds-self-inside-at-2 : goal.bounds-self-inside-at-2
bounds-self-inside-at-2 c =
    let inside : c.args.choice + 1 < length c.self.inside.bounds.now =
    bound-inside _ _ _ _ _ _ c.self.view_is _ c.requires.choice in
    omega (
      arith,
      c.requires.place,
      edges-count _ _ _ _ _ _ c.self.view_is _ c.requires.choice,
      c.self.invariant.low_within _ inside,
    )

pub returns : goal.returns
returns c =
    let at = slice_index c.self.inside.bounds.now c.args.choice + c.args.place in
    ap (λ n. record { to = slice_index c.self.inside.to.now at; weight = n })
    (c.weight_of.ensures ∙ ap (λ n. slice_index c.self.inside.low.now at + 2 ^ 64 * n) c.entry.ensures)
    ∙ edge-in _ _ _ _ _ _ c.self.view_is _ _ c.requires.choice c.requires.place
