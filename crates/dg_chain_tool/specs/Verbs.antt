-- What the verbs of chained images do, by the bytes of the input and by what the board stands for (docs/COMMANDS.md,
-- "Hash-chained images").
use Rattle.std.specs.Prelude.{ℕ, ◌==◌, nat_lt, if◌then◌else◌, List, [], ◌∷◌, ◌++◌, length, drop, codes}
use Rattle.std.specs.Prelude.{Option, Some, None, Ok, Err}
use Rattle.dg_base.specs.Hexadecimal.{hex_text}
use Rattle.dg_ihex.specs.Written.{written_file}
use Rattle.dg_object.specs.Object.{Row}
use Rattle.dg_slot.specs.Kept.{Held}
use Rattle.dg_volume.specs.declared.volume.InjectFault.{InjectFault}
use Rattle.dg_chain.specs.Chain.{root_of, joined_pages, most_payload}
use Rattle.dg_chain.specs.Checking.{Answer, Fine, Broken, Misshapen, Break, answer_of}
use Rattle.dg_end.specs.declared.refusal.Refusal.TheVariants as refusals
use Rattle.dg_end.specs.Conversions.{end_of_injection}
use Rattle.dg_end.specs.declared.ends.End.TheVariants as ends
use Rattle.dg_end.specs.Texts.{numbers, line}
use Rattle.dg_tool.specs.Endings.{VerbEnding, Before, Reading, Acting}
use Rattle.dg_tool.specs.Verbs.{have_text}

-- ---- wrap

abbrev pub wrap_by : List ℕ → VerbEnding
wrap_by x =
    if length x == 0 then Before (ends.Refused refusals.Empty)
    else if nat_lt most_payload (length x) then Before (ends.Refused (refusals.TooLarge (length x)))
    else Acting (Ok (line (codes "root " ++ hex_text (root_of x)) ++ written_file (joined_pages x)))

-- ---- check

abbrev pub chain_text : ℕ → List ℕ
chain_text n = line (codes "chain" ++ numbers (n ∷ []))

-- what is found of the data pages
abbrev pub answered : Answer → VerbEnding
answered (Fine n) = Acting (Ok (chain_text n))
answered (Broken at) = Reading (ends.Refused (refusals.Broken at.page at.kept at.found))
answered Misshapen = Reading (ends.Refused refusals.Shape)

abbrev pub check_by : (root : List ℕ) → Option Held → VerbEnding
check_by root None = Reading (ends.Refused refusals.Absent)
check_by root (Some h) =
    if length h.complete == h.pages then answered (answer_of root (drop 1 h.complete))
    else Reading (ends.Refused (refusals.NotWhole (length h.complete) h.pages))

-- ---- receive

abbrev pub receive_ending : Row → Option InjectFault → Option Break → VerbEnding
receive_ending row (Some fault) found = Reading (end_of_injection (length row.bytes) fault)
receive_ending row None None = Acting (Ok (have_text row))
receive_ending row None (Some at) = Acting (Err (ends.Refused (refusals.Foreign at.page)))
