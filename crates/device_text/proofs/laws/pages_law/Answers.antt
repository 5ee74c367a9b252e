use Rattle.device_text.proofs.Screens.{text_so, writable_so}
use Rattle.device_text.proofs.laws.pages_law.Goals as goal

pub returns-clause-text : goal.returns-clause-text
returns-clause-text c d screen n text e = text_so n d screen text e

pub returns-clause-writable : goal.returns-clause-writable
returns-clause-writable c d screen n text sized few e = writable_so n d screen text sized few e
