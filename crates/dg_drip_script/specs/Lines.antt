-- The lines of a script of nodes (docs/SCRIPTS.md, "Scripts of nodes").
use Rattle.std.specs.Prelude.{◌≡◌, false, ℕ, ◌<◌, ◌≤◌, ◌==◌, ◌&&◌, not, nat_lt, Bool, if◌then◌else◌, List, [], ◌∷◌, length, codes}
use Rattle.std.specs.Prelude.{map, Option, Some, None, ok_or, Result, Ok, Err}
use Rattle.dg_base.specs.Numbers.{number_of}
use Rattle.dg_script.specs.Lines.{is_comment}
use Rattle.dg_script.specs.Results.{◌>>?◌, kept_if}
use Rattle.dg_script.specs.Words.{words_of, same}
use Rattle.dg_drip.specs.declared.events.DripEvent.TheVariants as event
use Rattle.dg_drip_replay.specs.Standing.{FitsDripEvent}
use Rattle.dg_drip_script.specs.Fields.{Field, one_number, two_numbers, four_numbers, five_numbers, field_below}
use Rattle.dg_drip_script.specs.Fields.{from_one_to}
use Rattle.dg_drip_script.specs.Sizes.{most_nodes, most_sweeps, most_line, most_number, key_count}
use Rattle.dg_drip_script.specs.declared.line.DripLine.{DripLine}
use Rattle.dg_drip_script.specs.declared.line.DripLine.TheVariants.{Nothing, Nodes, Link, Event as EventLine, Round, Sweeps}
use Rattle.dg_drip_script.specs.declared.line.DripFault.{DripFault}
use Rattle.dg_drip_script.specs.declared.line.DripFault.TheVariants.{Long, Verb, Place, Number}
use Rattle.dg_drip_script.specs.declared.line.Standing.{Standing}
use Rattle.dg_script.specs.declared.fault.LineFault.{LineFault}
use Rattle.dg_script.specs.declared.fault.LineFault.TheVariants as lines

-- ---- the faults of a line in their order: its number of fields, its place, its numbers

abbrev pub shaped : {A : Type 0} → Option A → (stands : Bool) → (A → Option DripLine) → Result DripLine DripFault
shaped None stands read = Err Verb
shaped (Some fields) stands read = if stands then ok_or (read fields) Number else Err Place

-- `nodes` comes first and once, and `link` before the first event
abbrev pub has_nodes : Standing → Bool
has_nodes at = not (at.nodes == 0)

-- two different nodes
abbrev pub pair_of : (nodes : ℕ) → Field × Field → Option (ℕ × ℕ)
pair_of nodes fields = field_below nodes fields.0 >>? λ a. field_below nodes fields.1 >>? λ b. kept_if (not (b == a)) (a, b)

abbrev pub drip_tick_of : (nodes : ℕ) → Field × Field × Field × Field → Option DripLine
drip_tick_of nodes fields =
    field_below nodes fields.0 >>? λ node. field_below key_count fields.1 >>? λ key. fields.2 >>? λ dt. fields.3 >>? λ word.
    Some (EventLine (event.Tick node key dt word))

abbrev pub drip_hear_of : (nodes : ℕ) → Field × Field × Field × Field → Option DripLine
drip_hear_of nodes fields =
    field_below nodes fields.0 >>? λ node. fields.1 >>? λ dt. fields.2 >>? λ word. from_one_to most_number fields.3 >>?
    λ frame. Some (EventLine (event.Hear node dt word frame))

abbrev pub set_of : (nodes : ℕ) → Field × Field × Field × Field × Field → Option DripLine
set_of nodes fields =
    field_below nodes fields.0 >>? λ node. field_below key_count fields.1 >>? λ key. fields.2 >>? λ value. fields.3 >>? λ dt.
    fields.4 >>? λ word. Some (EventLine (event.Set node key value dt word))

-- ---- each verb's line

-- of a number
abbrev pub count_line : (stands : Bool) → (most : ℕ) → (ℕ → DripLine) → List Field → Result DripLine DripFault
count_line stands most line fields = shaped (one_number fields) stands (λ n. from_one_to most n >>? λ count. Some (line count))

-- of two nodes
abbrev pub pair_line : (stands : Bool) → (nodes : ℕ) → (ℕ → ℕ → DripLine) → List Field → Result DripLine DripFault
pair_line stands nodes line fields = shaped (two_numbers fields) stands (λ ends. pair_of nodes ends >>? λ p. Some (line p.0 p.1))

-- the line of a verb
abbrev pub event_line : Standing → (verb : List ℕ) → List Field → Result DripLine DripFault
event_line at verb fields =
    if same verb (codes "set") then shaped (five_numbers fields) (has_nodes at) (set_of at.nodes)
    else if same verb (codes "tick") then shaped (four_numbers fields) (has_nodes at) (drip_tick_of at.nodes)
    else if same verb (codes "hear") then shaped (four_numbers fields) (has_nodes at) (drip_hear_of at.nodes)
    else Err Verb

abbrev pub verb_line : Standing → (verb : List ℕ) → List Field → Result DripLine DripFault
verb_line at verb fields =
    if same verb (codes "nodes") then count_line (at.nodes == 0) most_nodes Nodes fields
    else if same verb (codes "link") then pair_line (has_nodes at && not at.begun) at.nodes Link fields
    else if same verb (codes "round") then pair_line (has_nodes at) at.nodes Round fields
    else if same verb (codes "sweeps") then count_line (has_nodes at) most_sweeps Sweeps fields
    else event_line at verb fields

-- the line of words. A line without words, and one whose first word begins with `#`, say nothing
abbrev pub drip_said : Standing → List (List ℕ) → Result DripLine DripFault
drip_said at [] = Ok Nothing
drip_said at (word ∷ fields) = if is_comment word then Ok Nothing else verb_line at word (map number_of fields)

-- the line that a text spells after others, or its fault
unfoldable pub drip_line_of : Standing → List ℕ → Result DripLine DripFault
drip_line_of at text = if nat_lt most_line (length text) then Err Long else drip_said at (words_of text)

-- the numbers of a line are nodes of which there are this many, keys, and in their ranges
abbrev pub FitsDripLine : (nodes : ℕ) → DripLine → Type 0
FitsDripLine nodes Nothing = Unit {0}
FitsDripLine nodes (Nodes count) = (1 ≤ count) × (count ≤ most_nodes)
FitsDripLine nodes (Link a b) = (a < nodes) × (b < nodes)
FitsDripLine nodes (EventLine event) = FitsDripEvent nodes event
FitsDripLine nodes (Round a b) = (a < nodes) × (b < nodes)
FitsDripLine nodes (Sweeps count) = 1 ≤ count

-- the line may stand there
abbrev pub DripStandsAt : Standing → DripLine → Type 0
DripStandsAt at Nothing = Unit {0}
DripStandsAt at (Nodes count) = at.nodes ≡ 0
DripStandsAt at (Link a b) = at.begun ≡ false
DripStandsAt at (EventLine event) = Unit {0}
DripStandsAt at (Round a b) = Unit {0}
DripStandsAt at (Sweeps count) = Unit {0}

-- the fault of a line, as the last line of a replay reports it
abbrev pub line_fault : DripFault → LineFault
line_fault Long = lines.Long
line_fault Verb = lines.Verb
line_fault Place = lines.Place
line_fault Number = lines.Number
