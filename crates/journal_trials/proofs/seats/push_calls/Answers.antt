use Rattle.journal_trials.proofs.seats.push_calls.Goals as goal

pub loop-words-init : goal.loop-words-init
loop-words-init g c = record { ready = c.requires.ready; led = (_, g.met.K.DeskCalls.leads_none _) }

pub returns-in_err-push_any-clause-led : goal.returns-in_err-push_any-clause-led
returns-in_err-push_any-clause-led g c = (_, g.met.K.DeskCalls.leads_more _ _ _ _ _ c.loop-words.invariant.led.1 c.push_any.ensures.led.1)

pub loop-words-preserved : goal.loop-words-preserved
loop-words-preserved g c = record {
  ready = c.push_any.ensures.ready;
  led = (_, g.met.K.DeskCalls.leads_more _ _ _ _ _ c.loop-words.invariant.led.1 c.push_any.ensures.led.1);
}
