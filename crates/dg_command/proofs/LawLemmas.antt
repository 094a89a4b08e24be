-- What a command is.
use Rattle.std.proofs.Common.{◌≡◌, ◌≢◌, ◌∙◌, Bool, true, false, refl, sym, ap, List, [], ◌∷◌, Option, Some, None}
use Rattle.clap.specs.Words.{Kinds, Text, fault_of, matches_of}
use Rattle.clap.specs.declared.error.kind.ErrorKind.{ErrorKind}
use Rattle.clap.specs.declared.error.kind.ErrorKind.TheVariants.{DisplayHelp, DisplayVersion}
use Rattle.dg_command.specs.Apps.{app_for, app_of_verb}
use Rattle.dg_command.specs.Asking.{Asking, Asks, Misuses, Said, answer_for, asked_of, by_parse_fault, is_well_formed, asks_named, refused_words, said_at, taken_by}
use Rattle.dg_command.specs.Verbs.{verb_in}
use Rattle.dg_command.specs.declared.verbs.Verb.{Verb}

-- a refusal asks for no command
refusal : (k : ErrorKind) (said : Said) → refused_words k ≡ Asks said → ⊥
refusal DisplayHelp said e = cc
refusal DisplayVersion said e = cc
refusal _ said e = cc

no_fault : (ks : Kinds) (x : Asking) (said : Said) → by_parse_fault ks x ≡ Asks said → ks ≡ []
no_fault [] x said e = refl
no_fault (k ∷ ks) x said e = absurd (refusal k said e)

taken_fault : (ks : Kinds) (x : Asking) (said : Said) → by_parse_fault ks x ≡ Asks said → x ≡ Asks said
taken_fault [] x said e = e
taken_fault (k ∷ ks) x said e = absurd (refusal k said e)

named_is : (s said : Said) → asks_named s ≡ Asks said → (s ≡ said) × (is_well_formed said ≡ true)
named_is s said e = go (is_well_formed s) refl
  where
    go : (b : Bool) → is_well_formed s ≡ b → (s ≡ said) × (is_well_formed said ≡ true)
    go true h =
        let same : Asks s ≡ Asks said = rw h at e in
        let is : s ≡ said = cc in
        (is, ap is_well_formed (sym is) ∙ h)
    go false h =
        let bad : Misuses ≡ Asks said = rw h at e in
        absurd cc

taken_is : (o : Option Verb) (words : List Text) (said : Said) → answer_for o words ≡ Asks said → taken_by o (matches_of (app_for o) words) ≡ Asks said
taken_is o words said e = taken_fault (fault_of (app_for o) words) (taken_by o (matches_of (app_for o) words)) said e

as_answer : (words : List Text) (o : Option Verb) (said : Said) → verb_in words ≡ o → asked_of words ≡ Asks said → answer_for o words ≡ Asks said
unfolding asked_of
as_answer words o said is asks = ap (λ (v : Option Verb). answer_for v words) (sym is) ∙ asks

pub no_verb : (words : List Text) (said : Said) → verb_in words ≡ None → asked_of words ≢ Asks said
no_verb words said none asks =
    let bad : Misuses ≡ Asks said = taken_is None words said (as_answer words None said none asks) in
    cc

pub was_taken : (words : List Text) (said : Said) (v : Verb) → verb_in words ≡ Some v → asked_of words ≡ Asks said → fault_of (app_of_verb v) words ≡ []
was_taken words said v is asks = no_fault (fault_of (app_of_verb v) words) (taken_by (Some v) (matches_of (app_of_verb v) words)) said (as_answer words (Some v) said is asks)

pub has_values : (words : List Text) (said : Said) (v : Verb) → verb_in words ≡ Some v → asked_of words ≡ Asks said → said ≡ said_at v (matches_of (app_of_verb v) words)
has_values words said v is asks = sym (named_is (said_at v (matches_of (app_of_verb v) words)) said (taken_is (Some v) words said (as_answer words (Some v) said is asks))).0

named_for : (o : Option Verb) (words : List Text) (said : Said) → answer_for o words ≡ Asks said → is_well_formed said ≡ true
named_for (Some v) words said e = (named_is (said_at v (matches_of (app_of_verb v) words)) said (taken_is (Some v) words said e)).1
named_for None words said e =
    let bad : Misuses ≡ Asks said = taken_is None words said e in
    absurd cc

pub was_named : (words : List Text) (said : Said) → asked_of words ≡ Asks said → is_well_formed said ≡ true
was_named words said asks = named_for (verb_in words) words said (as_answer words (verb_in words) said refl asks)

named_yes : (s : Said) → is_well_formed s ≡ true → asks_named s ≡ Asks s
named_yes s h = rw h refl

pub is_command : (words : List Text) (v : Verb) → verb_in words ≡ Some v → fault_of (app_of_verb v) words ≡ [] → is_well_formed (said_at v (matches_of (app_of_verb v) words)) ≡ true
    → asked_of words ≡ Asks (said_at v (matches_of (app_of_verb v) words))
unfolding asked_of
is_command words v is none name =
    ap (λ (o : Option Verb). answer_for o words) is
    ∙ (ap (λ (ks : Kinds). by_parse_fault ks (asks_named (said_at v (matches_of (app_of_verb v) words)))) none ∙ named_yes (said_at v (matches_of (app_of_verb v) words)) name)
