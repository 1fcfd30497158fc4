-- Which reply names what bars a key.
use Rattle.desk_machine.specs.declared.call.DeskReply.{DeskReply}
use Rattle.desk_machine.specs.declared.call.DeskReply.TheVariants as reply
use Rattle.check_sign.specs.declared.leave.Bar.{Bar}
use Rattle.check_sign.specs.declared.leave.Bar.TheVariants as bar

abbrev pub reply_of_bar : Bar → DeskReply
reply_of_bar bar.Disk = reply.Disk
reply_of_bar bar.Unknown = reply.Unknown
reply_of_bar bar.NotActive = reply.NotActive
reply_of_bar bar.Closing = reply.Closing
reply_of_bar (bar.Live epoch) = reply.Live epoch
reply_of_bar (bar.Watching first second) = reply.Watching first second
