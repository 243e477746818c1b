use Rattle.trap_sets.proofs.Naming.{IsNaming-first, IsNaming-known}
use Rattle.trap_sets.proofs.divide.name_of.Goals as goal

pub returns-then-names-own-eq0-clause-naming : goal.returns-then-names-own-eq0-clause-naming
returns-then-names-own-eq0-clause-naming c = λ class h. IsNaming-first c.args.part.now c.args.names.now class
    c.args.state h c.if-own-eq0.false c.requires.room c.if-names-own-eq0.true

pub returns-clause-naming : goal.returns-clause-naming
returns-clause-naming c = λ class h. IsNaming-known c.args.part.now c.args.names.now class c.args.state h
    c.if-own-eq0.false c.if-names-own-eq0.false
