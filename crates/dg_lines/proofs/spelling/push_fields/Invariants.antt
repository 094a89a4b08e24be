use Rattle.std.proofs.Common.{◌≡◌, ◌≤◌, ◌++◌, length, take}
use Rattle.dg_lines.specs.Fields.{fields_text}
use Rattle.dg_lines.proofs.spelling.push_fields.Given as goal

-- the fields so far are appended
abbrev pub invariant-loop-field : goal.invariant-loop-field
invariant-loop-field l = (l.out.items ≡ l.initial.out.items ++ fields_text (take l.field-index l.fields)) × (length l.initial.out.items ≤ length l.out.items)
