-- The table of the verbs: the word of each, where its lines stand, and whether they are played (docs/SCRIPTS.md, "The script").
use Rattle.std.specs.Prelude.{ℕ, ◌==◌, nat_lt, ◌&&◌, not, Bool, true, false, if◌then◌else◌, List, [], ◌∷◌, codes, Option, Some}
use Rattle.std.specs.Prelude.{None, is_some, Result}
use Rattle.std.specs.Option.{option_or}
use Rattle.dg_script.specs.Results.{◌>>=◌, allowed_if}
use Rattle.dg_script.specs.Words.{same}
use Rattle.dg_script.specs.declared.fault.LineFault.{LineFault}
use Rattle.dg_script.specs.declared.fault.LineFault.TheVariants as fault
use Rattle.dg_script.specs.declared.place.Place.{Place}
use Rattle.dg_script.specs.declared.verbs.Verb.{Verb}
use Rattle.dg_script.specs.declared.verbs.Verb.TheVariants.{Motes, Golden, Boards, Link, Narrow, Image, Tick, Hear, Last, Reset}
use Rattle.dg_script.specs.declared.verbs.Verb.TheVariants.{Inject, Order, Frame, Cut, Round, Sweeps}

abbrev pub word_of : Verb → List ℕ
word_of Motes = codes "motes"
word_of Golden = codes "golden"
word_of Boards = codes "boards"
word_of Link = codes "link"
word_of Narrow = codes "narrow"
word_of Image = codes "image"
word_of Tick = codes "tick"
word_of Hear = codes "hear"
word_of Last = codes "last"
word_of Reset = codes "reset"
word_of Inject = codes "inject"
word_of Order = codes "order"
word_of Frame = codes "frame"
word_of Cut = codes "cut"
word_of Round = codes "round"
word_of Sweeps = codes "sweeps"

-- the verbs of events; after a cut comes an event
abbrev pub is_event_verb : Verb → Bool
is_event_verb Tick = true
is_event_verb Hear = true
is_event_verb Last = true
is_event_verb Reset = true
is_event_verb Inject = true
is_event_verb Order = true
is_event_verb Frame = true
is_event_verb verb = false

-- The first line that says something is `motes`, and the second is `golden` or `boards`. These come once.
-- Links and narrow motes come before the first event, round or sweep.
abbrev pub is_second : Place → Bool
is_second place = nat_lt 0 place.motes && not place.ready

abbrev pub is_later : Place → Bool
is_later place = nat_lt 0 place.motes && place.ready

abbrev pub stands : Verb → Place → Bool
stands Motes place = place.motes == 0
stands Golden place = is_second place
stands Boards place = is_second place
stands Link place = is_later place && not place.events
stands Narrow place = is_later place && not place.events
stands verb place = is_later place

-- no cut waits, or this is the event for which it waits
abbrev pub follows : Verb → Place → Bool
follows verb place = if is_some place.cut then is_event_verb verb else true

-- a line of the verb stands at its place; the fault of the place comes before that of the cut
unfoldable pub standing : Verb → Place → Result (Unit {0}) LineFault
standing verb place = allowed_if (stands verb place) fault.Place >>= λ u. allowed_if (follows verb place) fault.Cut

-- the verb of a word
abbrev pub verb_among : List Verb → List ℕ → Option Verb
verb_among [] word = None
verb_among (verb ∷ verbs) word = if same word (word_of verb) then Some verb else verb_among verbs word

unfoldable pub verb_of : List ℕ → Option Verb
verb_of word =
    option_or (verb_among (Tick ∷ Last ∷ Hear ∷ Frame ∷ Reset ∷ Inject ∷ Order ∷ []) word)
    (verb_among (Round ∷ Sweeps ∷ Cut ∷ Image ∷ Link ∷ Narrow ∷ Golden ∷ Boards ∷ Motes ∷ []) word)
