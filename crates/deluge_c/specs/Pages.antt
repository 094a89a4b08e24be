-- What the C fields of a descriptor say (docs/C.md, "Pages").
use Rattle.std.specs.Prelude.{◌≡◌}
use Rattle.dg_words.specs.Lists.{padded}
use Rattle.dg_object.specs.Sizes.{name_size}
use Rattle.dg_object.specs.Descriptor.{Details}
use Rattle.deluge_c.specs.declared.pages.DescriptorFields.{DescriptorFields}

pub record FieldsTell (f : DescriptorFields) (d : Details) : Type 0 where
  pub image : f.image ≡ d.image
  pub version : f.version ≡ d.version
  pub pages : f.pages ≡ d.pages
  pub length : f.length ≡ d.length
  pub name : f.name ≡ padded name_size 0 d.name
