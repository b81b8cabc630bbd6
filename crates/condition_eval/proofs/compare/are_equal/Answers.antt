use Rattle.condition_eval.specs.Sides.{values_of}
use Rattle.condition_eval.proofs.Outs.{as_lists, as_objects}
use Rattle.condition_eval.proofs.compare.are_equal.Goals as goal

pub returns-in-List-List : goal.returns-in-List-List
returns-in-List-List c = rw (c.in-List-List.is-0, c.in-List-List.is-1) (as_lists c.are_equal_elements.result (values_of c.in-List-List.a) (values_of c.in-List-List.b) c.are_equal_elements.ensures)

pub returns-in-Object-Object : goal.returns-in-Object-Object
returns-in-Object-Object c = rw (c.in-Object-Object.is-0, c.in-Object-Object.is-1) (as_objects c.are_equal_members.result c.in-Object-Object.a.now c.in-Object-Object.b.now (rw (c.members.ensures.same, c.members-in-Object-Object.ensures.same) at c.are_equal_members.ensures))
