-- The verbs that a word may be, for private contracts.
use Rattle.std.specs.Prelude.{ℕ, List, [], ◌∷◌, Option}
use Rattle.dg_script.specs.Verbs.{verb_among}
use Rattle.dg_script.specs.declared.verbs.Verb.{Verb}
use Rattle.dg_script.specs.declared.verbs.Verb.TheVariants.{Motes, Golden, Boards, Link, Narrow, Image, Tick, Hear, Last, Reset}
use Rattle.dg_script.specs.declared.verbs.Verb.TheVariants.{Inject, Order, Frame, Cut, Round, Sweeps}

abbrev pub event_verb_in : List ℕ → Option Verb
event_verb_in = verb_among (Tick ∷ Last ∷ Hear ∷ Frame ∷ Reset ∷ Inject ∷ Order ∷ [])

abbrev pub other_verb_of : List ℕ → Option Verb
other_verb_of = verb_among (Round ∷ Sweeps ∷ Cut ∷ Image ∷ Link ∷ Narrow ∷ Golden ∷ Boards ∷ Motes ∷ [])
