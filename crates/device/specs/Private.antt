-- For the contracts of private functions alone; no other definition uses these.
--   class_of     what a plan does, by the part of the device that it reaches     class_next   the device after that, and the bits that it moved
use Rattle.bits.specs.declared.After.{After}
use Rattle.cores.specs.Core as cores
use Rattle.cores.specs.Moved as cores-moved
use Rattle.tree.specs.declared.Act.TheVariants as act
use Rattle.tree.specs.Tree as tree
use Rattle.tree.specs.Moved as tree-moved
use Rattle.steps.specs.declared.Plan.{Plan}
use Rattle.steps.specs.declared.Plan.TheVariants.{Refuse, ReadCore, WriteCore, ReadTree, WriteTree, ChangeTree, Window, Reset}
use Rattle.device.specs.declared.Device.{Device}
use Rattle.device.specs.declared.Class.{Class}
use Rattle.device.specs.declared.Class.TheVariants as class
use Rattle.device.specs.Device.{core_of, reset_of, with_core, with_open, with_tree}

unfoldable pub class_of : Plan → Class
class_of (Refuse reason) = class.Keep
class_of (ReadCore register core width) = class.Keep
class_of (ReadTree read) = class.Keep
class_of (WriteCore effect core) = class.Cores effect core
class_of (WriteTree write) = class.Tree (act.Write write)
class_of (ChangeTree change) = class.Tree (act.Change change)
class_of (Window opened) = class.Window opened
class_of Reset = class.Reset

abbrev none_moved : Device → After Device
none_moved d = record { state = d; moved = 0 }

unfoldable pub class_next : Device → Class → After Device
class_next d class.Keep = none_moved d
class_next d (class.Cores effect core) =
    let k = cores.applied_of (core_of d core) effect in
    record { state = with_core d core k; moved = (cores-moved.with_moved (core_of d core) k effect.cell).moved }
class_next d (class.Tree a) =
    let t = tree-moved.with_moved d.tree (tree.acted_of d.tree a) a in
    record { state = with_tree d t.state; moved = t.moved }
class_next d (class.Window opened) = none_moved (with_open d opened)
class_next d class.Reset = none_moved (reset_of d)
