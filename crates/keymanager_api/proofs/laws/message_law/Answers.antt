use Rattle.keymanager_routes.specs.Checks.{action_for}
use Rattle.keymanager_api.proofs.ReadingLemmas.{message_is, unread_is}
use Rattle.keymanager_api.proofs.laws.message_law.Goals as goal

pub returns-clause-message : goal.returns-clause-message
returns-clause-message c = λ token left read bytes. message_is (action_for token) left read bytes

pub returns-clause-unread : goal.returns-clause-unread
returns-clause-unread c = λ token left request bytes refusal. unread_is token left request bytes refusal
