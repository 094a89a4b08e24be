-- What a command did, from the contract of its call.
use Rattle.std.proofs.Common.{◌≡◌, ℕ, List, sym, ap, ◌∙◌, subst}
use Rattle.dg_base.specs.declared.answers.Status.{Status}
use Rattle.dg_base.specs.declared.answers.Status.TheVariants as statuses
use Rattle.dg_outside.specs.Outside.{Outside}
use Rattle.dg_tool.specs.Done.{InputDone}
use Rattle.dg_tool.specs.Rules.{format_rule, InjectDone}
use Rattle.dg_chain_tool.specs.Done.{ReceiveDone}
use Rattle.dg_command.specs.Asking.{Asking, said_of_command, asking_of}
use Rattle.dg_command.specs.declared.command.Asked.{Asked}
use Rattle.dg_command.specs.declared.command.Command.{Command}
use Rattle.dg_cli.specs.Commands.{ReadsInput, UsesLink, CommandOutcome}
use Rattle.dg_cli.specs.Chained.{root_in, Checked}

pub said_done : (c d : Command) → c ≡ d → (s : Status) (a b : Outside) → CommandOutcome (said_of_command d) s a b → CommandOutcome (said_of_command c) s a b
said_done c d e s a b h = subst (λ (x : Command). CommandOutcome (said_of_command x) s a b) (sym e) h

-- ---- commands that are given names and digits

pub format_said : (told name : List ℕ) (used form : ℕ) (s : Status) (a b : Outside) → told ≡ name → InputDone s (format_rule told used form) a b → InputDone s (format_rule name used form) a b
format_said told name used form s a b e h = subst (λ (t : List ℕ). InputDone s (format_rule t used form) a b) e h

pub inject_said : (image version : ℕ) (told name : List ℕ) (s : Status) (a b : Outside) → told ≡ name → InjectDone image version told s a b → InjectDone image version name s a b
inject_said image version told name s a b e h = subst (λ (t : List ℕ). InjectDone image version t s a b) e h

pub receive_said : (image version : ℕ) (told name digits root : List ℕ) (s : Status) (a b : Outside) → told ≡ name → digits ≡ root → ReceiveDone image version told (root_in digits) s a b → ReceiveDone image version name (root_in root) s a b
receive_said image version told name digits root s a b e f h =
    subst (λ (t : List ℕ). ReceiveDone image version t (root_in root) s a b) e (subst (λ (r : List ℕ). ReceiveDone image version told (root_in r) s a b) f h)

pub check_said : (image : ℕ) (digits root : List ℕ) (s : Status) (a b : Outside) → digits ≡ root → Checked image (root_in digits) s a b → Checked image (root_in root) s a b
check_said image digits root s a b e h = subst (λ (r : List ℕ). Checked image (root_in r) s a b) e h

-- ---- what was asked for

pub asked_said : (asked said : Asked) (asking_for : Asking) → asked ≡ said → asking_of asked ≡ asking_for → asking_of said ≡ asking_for
asked_said asked said asking_for e h = ap asking_of (sym e) ∙ h

pub reads_same : (a b : Asking) → a ≡ b → ReadsInput a → ReadsInput b
reads_same a b e h = subst ReadsInput e h

pub uses_same : (a b : Asking) → a ≡ b → UsesLink a → UsesLink b
uses_same a b e h = subst UsesLink e h
