use Rattle.std.proofs.Common.{length, refl}
use Rattle.dg_bits.proofs.ByteFormLaws.{contains-numbers_of, numbers_of-byte_form, byte_form-numbers_of}
use Rattle.dg_bits.proofs.one_byte_form.Goals as goal

pub returns-clause-bits : goal.returns-clause-bits
returns-clause-bits c = contains-numbers_of

pub returns-clause-of_set : goal.returns-clause-of_set
returns-clause-of_set c = numbers_of-byte_form

pub returns-clause-of_bytes : goal.returns-clause-of_bytes
returns-clause-of_bytes c = λ bytes fit. byte_form-numbers_of bytes (length bytes) refl (λ k _. fit k)
