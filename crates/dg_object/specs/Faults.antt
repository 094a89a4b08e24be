-- The texts of the faults of images and descriptors (docs/IMAGES.md, "Objects and descriptors").
use Rattle.std.specs.Prelude.{ℕ, List, codes}
use Rattle.dg_object.specs.declared.descriptor.DescriptorFault.{DescriptorFault}
use Rattle.dg_object.specs.declared.descriptor.DescriptorFault.TheVariants.{Tag, Range}
use Rattle.dg_object.specs.declared.size.SizeFault.{SizeFault}
use Rattle.dg_object.specs.declared.size.SizeFault.TheVariants.{Empty, TooLarge}

abbrev pub size_fault_text : SizeFault → List ℕ
size_fault_text Empty = codes "the image is empty"
size_fault_text TooLarge = codes "the image is too large"

abbrev pub descriptor_fault_text : DescriptorFault → List ℕ
descriptor_fault_text Tag = codes "the page is no descriptor"
descriptor_fault_text Range = codes "a field of the descriptor is out of its range"
