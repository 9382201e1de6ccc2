-- `request_at` meets its contract: each value starts where the one before it ends.
use native.Mathlib.Omega.{arith}
use Rattle.fields.specs.Fields.{total, request_at}
use Rattle.fields.proofs.request_at.Goals as goal

pub number_at-requires : goal.number_at-requires
unfolding total
number_at-requires c = (omega arith, omega arith)

pub overflow_add-from : goal.overflow_add-from
unfolding total
overflow_add-from c = omega arith

pub number_at-requires-2 : goal.number_at-requires-2
unfolding total
number_at-requires-2 c = (omega arith, omega arith)

pub overflow_add-from-2 : goal.overflow_add-from-2
unfolding total
overflow_add-from-2 c = omega arith

pub overflow_add-from-3 : goal.overflow_add-from-3
unfolding total
overflow_add-from-3 c = omega arith

pub number_at-requires-3 : goal.number_at-requires-3
unfolding total
number_at-requires-3 c = (omega arith, omega arith)

pub overflow_add-from-4 : goal.overflow_add-from-4
unfolding total
overflow_add-from-4 c = omega arith

pub overflow_add-from-5 : goal.overflow_add-from-5
unfolding total
overflow_add-from-5 c = omega arith

pub overflow_add-from-6 : goal.overflow_add-from-6
unfolding total
overflow_add-from-6 c = omega arith

pub number_at-requires-4 : goal.number_at-requires-4
unfolding total
number_at-requires-4 c = (omega arith, omega arith)

pub returns : goal.returns
unfolding request_at
returns c = cc
