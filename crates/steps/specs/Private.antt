-- For the contracts of private functions alone; no other definition uses this.
--   request_plan   the plan of a step in the form of src/request.rt, which has all bus and private accesses as one kind
use Rattle.std.specs.Prelude.{Bool}
use Rattle.steps.specs.declared.Plan.{Plan}
use Rattle.steps.specs.declared.Plan.TheVariants as plan
use Rattle.steps.specs.declared.request.Request.{Request}
use Rattle.steps.specs.declared.request.Request.TheVariants as request
use Rattle.steps.specs.Decide.{bridge_plan, input_plan, node_input_plan, which_plan, window_plan}

unfoldable pub request_plan : Bool → Request → Plan
request_plan opened (request.Access address transfer) = window_plan opened address transfer.width transfer.write transfer.value
request_plan opened (request.Bridge register write value) = bridge_plan register write value
request_plan opened (request.Input source level) = input_plan source level
request_plan opened (request.NodeInput source level) = node_input_plan source level
request_plan opened (request.Which chip) = which_plan chip
request_plan opened (request.Window on) = plan.Window on
request_plan opened request.Reset = plan.Reset
