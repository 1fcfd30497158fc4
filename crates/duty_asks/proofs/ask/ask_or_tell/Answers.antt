use Rattle.std.proofs.Common.{Some, Err, ◌∙◌, ap}
use Rattle.duty_asks.proofs.QuietLemmas.{came_given, came_none, came_cut}
use Rattle.duty_asks.specs.Quiet.{stop_value}
use Rattle.duty_asks.proofs.ask.ask_or_tell.Goals as goal

pub returns-in-Ok : goal.returns-in-Ok
returns-in-Ok g c = λ next_by s at tells. came_given c.args.ask.now _ _ _ c.ask.result next_by c.in-Ok.answer c.in-Ok.is c.requires c.ask.ensures.tries c.ask.ensures.fits

pub returns-in-Ok-tell_none : goal.returns-in-Ok-tell_none
returns-in-Ok-tell_none g c = λ next_by s at tells.
    came_none c.args.ask.now _ _ _ _ c.ask.result next_by s c.in-Err-NoNode.field-0-0 (Some (Some s)) (c.in-Err-NoNode.is ∙ ap Err c.in-Err-NoNode.field-0-is) c.requires c.ask.ensures.tries c.ask.ensures.fits tells
    (c.in-Ok-tell_none.ensures s at _)

pub returns-in-Err-NoNode : goal.returns-in-Err-NoNode
returns-in-Err-NoNode g c = λ next_by s at tells.
    came_none c.args.ask.now _ _ _ _ c.ask.result next_by s c.in-Err-NoNode.field-0-0 (stop_value c.in-Err.stop) (c.in-Err-NoNode.is ∙ ap Err c.in-Err-NoNode.field-0-is) c.requires c.ask.ensures.tries c.ask.ensures.fits tells
    (c.in-Err.ensures s at _)

pub returns : goal.returns
returns g c = λ next_by s at tells. came_cut c.args.ask.now _ _ _ c.ask.result next_by c.requires c.ask.ensures.tries c.ask.ensures.fits
