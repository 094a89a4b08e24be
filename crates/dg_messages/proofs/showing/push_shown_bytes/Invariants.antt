use Rattle.std.proofs.Common.{◌≡◌, ◌++◌, drop}
use Rattle.dg_messages.specs.Showing.{shown_after}
use Rattle.dg_messages.proofs.showing.push_shown_bytes.Given as goal

-- what was appended, and what is shown of the bytes that are left
abbrev pub invariant-loop-byte : goal.invariant-loop-byte
invariant-loop-byte l =
    l.text.items ++ shown_after l.before (drop l.byte-index l.bytes) ≡ l.initial.text.items ++ shown_after 0 l.bytes
