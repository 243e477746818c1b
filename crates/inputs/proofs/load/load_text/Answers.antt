use Rattle.std.proofs.Common.{Err, ap, refl}
use Rattle.game_outside.specs.declared.shelf.ReadEnd.{ReadEnd}
use Rattle.inputs.specs.Texts.{text_said}
use Rattle.inputs.proofs.Loading.{read_whole, read_long, wanting}
use Rattle.inputs.proofs.load.load_text.Goals as goal

pub returns-in-Ok-clause-says : goal.returns-in-Ok-clause-says
returns-in-Ok-clause-says g c =
    read_whole c.args.text (g.H.Shelf.held c.args.shelf.now) (g.H.Shelf.steady c.args.shelf.now) c.args.name.now
    (λ v. v.items) _ c.in-Ok.bytes refl c.in-Ok.ensures.bytes c.in-Ok.ensures.within

pub returns-in-Err-OutOfMemory-clause-says : goal.returns-in-Err-OutOfMemory-clause-says
returns-in-Err-OutOfMemory-clause-says g c =
    wanting (g.H.Shelf.held c.args.shelf.now) (g.H.Shelf.steady c.args.shelf.now) (λ held. held c.args.name.now)
    (λ v. v.items) (text_said c.args.text)

pub returns-in-Err-TooLong-clause-says : goal.returns-in-Err-TooLong-clause-says
returns-in-Err-TooLong-clause-says g c =
    read_long c.args.text (g.H.Shelf.held c.args.shelf.now) (g.H.Shelf.steady c.args.shelf.now) c.args.name.now
    (λ v. v.items) (c.in-Err-TooLong.ensures.longer (ap (λ (e : ReadEnd). Err e) c.in-Err-TooLong.field-0-is))
