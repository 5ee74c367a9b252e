-- Which message a fault has.
use Rattle.std.specs.Prelude.{ℕ, ◌&&◌, ◌==◌, not, if◌then◌else◌}
use Rattle.advice.specs.declared.choice.Known.{Known}
use Rattle.advice.specs.declared.choice.Message.{Message}
use Rattle.advice.specs.declared.choice.Message.TheVariants as message

-- fault 13: a word that is not found
abbrev pub of_unknown : Known → Message
of_unknown k =
    if k.is_hidden then message.Hidden else
    if k.is_name then message.Elsewhere else
    if k.is_too_large && not k.has_dialect then message.Large else message.Unknown

-- fault 15: a name or a text that is missing or too long
abbrev pub of_missing : Known → Message
of_missing k =
    if k.is_open_text then message.Unquoted else
    if k.is_too_long then message.Long else
    if k.has_next then message.Plain else message.Follows

-- of any fault
abbrev pub choice : (fault : ℕ) → Known → Message
choice fault k =
    if fault == 8 then message.Full else
    if fault == 13 then of_unknown k else
    if fault == 15 then of_missing k else message.Plain
