-- What is asked for fits its ranges.
use Rattle.std.proofs.Common.{◌≡◌, ◌⊎◌, inl, inr, ℕ, Bool, true, false, refl, codes, Option, Some, None, arith}
use Rattle.clap.specs.Built.{IsParsedFrom}
use Rattle.clap.specs.Words.{app_of, found_of, rows_of}
use Rattle.clap.specs.declared.builder.command.Command.{Command}
use Rattle.clap.specs.declared.error.kind.ErrorKind.{ErrorKind}
use Rattle.clap.specs.declared.error.kind.ErrorKind.TheVariants.{DisplayHelp, DisplayVersion}
use Rattle.clap.specs.declared.parser.matches.ArgMatches.{ArgMatches}
use Rattle.dg_command.specs.Apps.{app_for, app_of_verb, most_u32}
use Rattle.dg_command.specs.Asking.{Said, is_well_formed, asks_named, refused_words, said_at, taken_by}
use Rattle.std.specs.Prelude.{◌==◌, if◌then◌else◌}
use Rattle.dg_command.specs.Values.{number_under, form_asked}
use Rattle.dg_command.specs.Bounds.{FitsRanges, IsInBounds}
use Rattle.dg_command.specs.Sizes.{last_slot, most_turns, most_room, least_motes, most_motes, least_pages, most_pages, most_step, most_id, old_form, new_form}
use Rattle.dg_command.specs.declared.verbs.Verb.{Verb}
use Rattle.dg_command.specs.declared.verbs.Verb.TheVariants.{Replay, Serve, Format, Inject, Order, Boot, Ping, Dump, Migrate, Trial, Wrap, Check, Receive, Drip, Base}
use Rattle.dg_command.proofs.RangeLemmas.{in_range}

form_known : (n : ℕ) → (form_asked n ≡ old_form) ⊎ (form_asked n ≡ new_form)
form_known n = by_test (n == old_form)
  where
    by_test : (b : Bool) → ((if b then old_form else new_form) ≡ old_form) ⊎ ((if b then old_form else new_form) ≡ new_form)
    by_test true = inl refl
    by_test false = inr refl

numbers : (v : Verb) (old : Command) (m : ArgMatches) → app_of old ≡ app_of_verb v → IsParsedFrom old m → IsInBounds (said_at v (rows_of (found_of m)))
numbers Replay old m is p = tt
numbers Serve old m is p = in_range Serve old m 0 1 most_turns 32 (codes "turns") is p (omega arith) (λ d. refl) refl refl (omega arith)
numbers Format old m is p = ((in_range Format old m 1 0 most_room 32 (codes "used") is p (omega arith) (λ d. refl) refl refl (omega arith)).1, form_known (number_under 8 (codes "form") (rows_of (found_of m))))
numbers Inject old m is p = (
  (in_range Inject old m 0 0 last_slot 8 (codes "image") is p (omega arith) (λ d. refl) refl refl (omega arith)).1,
  (in_range Inject old m 1 1 most_u32 32 (codes "ver") is p (omega arith) (λ d. refl) refl refl (omega arith)).0,
)
numbers Order old m is p = (
  (in_range Order old m 0 1 most_u32 32 (codes "number") is p (omega arith) (λ d. refl) refl refl (omega arith)).0,
  (in_range Order old m 1 0 last_slot 8 (codes "image") is p (omega arith) (λ d. refl) refl refl (omega arith)).1,
  (in_range Order old m 2 1 most_u32 32 (codes "ver") is p (omega arith) (λ d. refl) refl refl (omega arith)).0,
)
numbers Boot old m is p = tt
numbers Ping old m is p = tt
numbers Migrate old m is p = tt
numbers Dump old m is p = (in_range Dump old m 0 0 last_slot 8 (codes "image") is p (omega arith) (λ d. refl) refl refl (omega arith)).1
numbers Trial old m is p =
    let motes = in_range Trial old m 0 least_motes most_motes 8 (codes "motes") is p (omega arith) (λ d. refl) refl refl (omega arith) in
    let pages = in_range Trial old m 1 least_pages most_pages 8 (codes "pages") is p (omega arith) (λ d. refl) refl refl (omega arith) in
    (motes.0, motes.1, pages.0, pages.1)
numbers Wrap old m is p = tt
numbers Check old m is p = (in_range Check old m 0 0 last_slot 8 (codes "image") is p (omega arith) (λ d. refl) refl refl (omega arith)).1
numbers Receive old m is p =
    let image = in_range Receive old m 0 1 last_slot 8 (codes "image") is p (omega arith) (λ d. refl) refl refl (omega arith) in
    (image.0, image.1, (in_range Receive old m 1 1 most_u32 32 (codes "ver") is p (omega arith) (λ d. refl) refl refl (omega arith)).0)
numbers Drip old m is p = tt
numbers Base old m is p =
    let step = in_range Base old m 1 1 most_step 32 (codes "step") is p (omega arith) (λ d. refl) refl refl (omega arith) in
    ((in_range Base old m 0 0 most_id 16 (codes "id") is p (omega arith) (λ d. refl) refl refl (omega arith)).1, step.0, step.1)

named_fits : (s : Said) → IsInBounds s → FitsRanges (asks_named s)
named_fits s h = go (is_well_formed s) refl
  where
    go : (b : Bool) → is_well_formed s ≡ b → FitsRanges (asks_named s)
    go true e = rw e (h, e)
    go false e = rw e tt

pub taken_fits : (o : Option Verb) (old : Command) (m : ArgMatches) → app_of old ≡ app_for o → IsParsedFrom old m → FitsRanges (taken_by o (rows_of (found_of m)))
taken_fits None old m is p = tt
taken_fits (Some v) old m is p = named_fits (said_at v (rows_of (found_of m))) (numbers v old m is p)

pub refused_fits : (k : ErrorKind) → FitsRanges (refused_words k)
refused_fits DisplayHelp = tt
refused_fits DisplayVersion = tt
refused_fits _ = tt
