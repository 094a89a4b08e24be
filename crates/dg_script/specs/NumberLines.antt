-- The most common lines, whose fields are all numbers, by these numbers (docs/SCRIPTS.md, "The script").
use Rattle.std.specs.Prelude.{ℕ, ◌==◌, nat_lt, not, Result, Ok}
use Rattle.dg_base.specs.declared.events.Event.TheVariants as event
use Rattle.dg_script.specs.Results.{◌>>=◌, guarded}
use Rattle.dg_script.specs.Verbs.{standing}
use Rattle.dg_script.specs.declared.fault.LineFault.{LineFault}
use Rattle.dg_script.specs.declared.fault.LineFault.TheVariants.{Mote}
use Rattle.dg_script.specs.declared.line.Line.{Line}
use Rattle.dg_script.specs.declared.line.Line.TheVariants.{Happens as EventLine}
use Rattle.dg_script.specs.declared.place.Place.{Place}
use Rattle.dg_script.specs.declared.verbs.Verb.TheVariants.{Tick, Last}

-- the mote with a number, one of this many
abbrev pub mote_with : (motes n : ℕ) → Result ℕ LineFault
mote_with motes n = guarded (nat_lt n motes) Mote n

-- one of this many motes, but not this one
abbrev pub other_with : (motes mote n : ℕ) → Result ℕ LineFault
other_with motes mote n = mote_with motes n >>= λ other. guarded (not (other == mote)) Mote other

-- `tick M DT DRAW`
abbrev pub tick_with : Place → (at dt word : ℕ) → Result Line LineFault
tick_with place at dt word =
    standing Tick place >>= λ u. mote_with place.motes at >>= λ mote. Ok (EventLine (event.Tick mote dt word))

-- `last A B DT DRAW`
abbrev pub last_with : Place → (first second dt word : ℕ) → Result Line LineFault
last_with place first second dt word =
    standing Last place >>= λ u. mote_with place.motes first >>= λ from. other_with place.motes from second
    >>= λ to. Ok (EventLine (event.Last from to dt word))
