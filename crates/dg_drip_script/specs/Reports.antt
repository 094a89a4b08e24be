-- The lines of a report (docs/SCRIPTS.md, "Scripts of nodes").
use Rattle.std.specs.Prelude.{ℕ, ◌==◌, if◌then◌else◌, List, [], ◌∷◌, ◌++◌, codes, Option, Some, None}
use Rattle.std.specs.List.{flat_map, range_with_len}
use Rattle.dg_drip.specs.declared.entry.Entry.{Entry}
use Rattle.dg_drip.specs.Network.{Network, entry_at}
use Rattle.dg_drip_replay.specs.declared.report.DripCause.{DripCause}
use Rattle.dg_drip_replay.specs.declared.report.DripCause.TheVariants as cause
use Rattle.dg_drip_replay.specs.declared.report.DripReport.{DripReport}
use Rattle.dg_drip_replay.specs.declared.report.DripReport.TheVariants.{Refused, Sent, Got, End, Value}
use Rattle.dg_end.specs.Texts.{numbers, line}
use Rattle.dg_drip_script.specs.Sizes.{key_count}

abbrev pub cause_word : DripCause → List ℕ
cause_word cause.Last = codes "last"
cause_word cause.Frame = codes "frame"
cause_word cause.Link = codes "link"

abbrev pub entry_line : (word : List ℕ) → (node key : ℕ) → Entry → List ℕ
entry_line word node key e = line (word ++ numbers (node ∷ key ∷ e.number ∷ e.value ∷ []))

-- the text of a line of a report, with its end
abbrev pub drip_report_line : DripReport → List ℕ
drip_report_line (Refused node cause) = line (codes "no" ++ numbers (node ∷ []) ++ 32 ∷ cause_word cause)
drip_report_line (Sent node key e) = entry_line (codes "sent") node key e
drip_report_line (Got node key e) = entry_line (codes "got") node key e
drip_report_line (End events) = line (codes "end" ++ numbers (events ∷ []))
drip_report_line (Value node key e) = entry_line (codes "value") node key e

abbrev pub reported_text : Option DripReport → List ℕ
reported_text None = []
reported_text (Some report) = drip_report_line report

-- ---- the last lines

abbrev pub value_text : (node key : ℕ) → Entry → List ℕ
value_text node key e = if e.number == 0 then [] else entry_line (codes "value") node key e

-- what a node keeps, by key
abbrev pub node_text : Network → ℕ → List ℕ
node_text w node = flat_map (λ key. value_text node key (entry_at w node key)) (range_with_len 0 key_count)

-- how many events there were, and each entry that is kept, by node and key
abbrev pub final_text : Network → (nodes events : ℕ) → List ℕ
final_text w nodes events = drip_report_line (End events) ++ flat_map (node_text w) (range_with_len 0 nodes)
