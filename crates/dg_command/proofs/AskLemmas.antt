-- From what `clap` answers to what words ask for.
use Rattle.std.proofs.Common.{◌≡◌, ◌≢◌, ◌∙◌, sym, ap, ap₂, subst, inl, inr, List, [], ◌∷◌, Option}
use Rattle.clap.specs.Values.{kind_of}
use Rattle.clap.specs.Words.{App, HasKind, IsAmong, Kinds, Row, Text, fault_of, matches_of}
use Rattle.clap.specs.declared.error.Error.{Error}
use Rattle.clap.specs.declared.error.kind.ErrorKind.{ErrorKind}
use Rattle.clap.specs.declared.error.kind.ErrorKind.TheVariants.{OutOfMemory}
use Rattle.dg_command.specs.Apps.{app_for}
use Rattle.dg_command.specs.Asking.{Asking, asked_of, by_parse_fault, refused_words, taken_by}
use Rattle.dg_command.specs.Verbs.{verb_in}
use Rattle.dg_command.specs.declared.verbs.Verb.{Verb}
use Rattle.dg_command.proofs.AppLemmas.{one_for}
use Rattle.dg_command.proofs.KindLemmas.{AtMostOne}

of_kind : (ks : Kinds) (k : ErrorKind) (x : Asking) → AtMostOne ks → IsAmong k ks → by_parse_fault ks x ≡ refused_words k
unfolding AtMostOne
of_kind [] k x one among = absurd among
of_kind (l ∷ []) k x one among = elim among [
  | inl e ↦ ap refused_words (sym e)
  | inr none ↦ absurd none
]
of_kind (l ∷ m ∷ ks) k x one among = absurd one

-- the fault of the command that was built, at the words as `clap` saw them, is that of the words
fault_is : (v : Option Verb) (words seen : List Text) (app : App) → v ≡ verb_in words → app ≡ app_for v → seen ≡ words
    → fault_of (app_for (verb_in words)) words ≡ fault_of app seen
fault_is v words seen app verb is same = ap₂ fault_of (sym (is ∙ ap app_for verb)) (sym same)

pub takes_them : (v : Option Verb) (words seen : List Text) (app : App) (rows : List Row) (a : Asking) → v ≡ verb_in words → app ≡ app_for v → seen ≡ words
    → fault_of app seen ≡ [] → rows ≡ matches_of app seen → a ≡ taken_by v rows → a ≡ asked_of words
unfolding asked_of
takes_them v words seen app rows a verb is same none found says =
    let rows_are : rows ≡ matches_of (app_for (verb_in words)) words = found ∙ ap₂ matches_of (is ∙ ap app_for verb) same in
    says ∙ (ap₂ taken_by verb rows_are ∙ sym (ap (λ (ks : Kinds). by_parse_fault ks (taken_by (verb_in words) (matches_of (app_for (verb_in words)) words))) (fault_is v words seen app verb is same ∙ none)))

pub refuses_them : (v : Option Verb) (words seen : List Text) (app : App) (e : Error) (a : Asking) → v ≡ verb_in words → app ≡ app_for v → seen ≡ words
    → HasKind (fault_of app seen) e → kind_of e ≢ OutOfMemory → a ≡ refused_words (kind_of e) → a ≡ asked_of words
unfolding asked_of
refuses_them v words seen app e a verb is same has other says = elim has [
  | inl memory ↦ absurd (other memory)
  | inr among ↦
      says ∙ sym (of_kind (fault_of (app_for (verb_in words)) words) (kind_of e) (taken_by (verb_in words) (matches_of (app_for (verb_in words)) words)) (one_for (verb_in words) words)
      (subst (λ (ks : Kinds). IsAmong (kind_of e) ks) (sym (fault_is v words seen app verb is same)) among))
]
