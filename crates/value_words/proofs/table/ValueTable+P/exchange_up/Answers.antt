use Rattle.step_core.specs.Word.{value_in, choice_in}
use Rattle.fixed_bellman.proofs.Tables.{IsGivenBy-rises}
use Rattle.value_words.specs.Passes.{seen_by}
use Rattle.value_words.proofs.Grown.{looked-twice}
use Rattle.value_words.proofs.table.ValueTable+P.exchange_up.Goals as goal

pub loop-pass-init : goal.loop-pass-init
loop-pass-init g c =
    let l = c.load-current.ensures in record {
      looked = l.looked;
      current = l.current;
      given = IsGivenBy-rises g.P.Posing.posed (seen_by c.args.pass.now) (seen_by c.load-current.new.pass) c.args.state
          (value_in c.args.to) (choice_in c.args.to) c.args.self.now.posed c.requires.state
          (λ t _. l.looked.grew.up t) c.requires.given;
    }

pub loop-pass-preserved : goal.loop-pass-preserved
loop-pass-preserved g c =
    let h = c.loop-pass.invariant in
    let e = c.exchange-found.ensures in
    let lost = e.lost c.if-found-current.false in record {
      looked = looked-twice _ _ _ h.looked (record { grew = e.grew; won = lost.0; parts = e.parts });
      current = lost.1;
      given = IsGivenBy-rises g.P.Posing.posed (seen_by c.loop-pass.pass)
          (seen_by c.exchange-found.new.pass) c.args.state (value_in c.args.to)
          (choice_in c.args.to) c.args.self.now.posed c.requires.state (λ t _. e.grew.up t) h.given;
    }
