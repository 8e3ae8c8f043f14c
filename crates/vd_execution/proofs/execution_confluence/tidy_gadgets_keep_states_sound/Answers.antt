use Rattle.vd_execution.proofs.Gadgets.{gadget_sound, gadgets_sound, plan_sound}
use Rattle.vd_execution.proofs.execution_confluence.tidy_gadgets_keep_states_sound.Goals as goal

pub returns-clause-one : goal.returns-clause-one
returns-clause-one c = λ g tidy t deal w sound. gadget_sound t deal g tidy w sound

pub returns-clause-many : goal.returns-clause-many
returns-clause-many c = λ gs tidy t deal w sound. gadgets_sound t deal gs tidy w sound

pub returns-clause-whole : goal.returns-clause-whole
returns-clause-whole c = λ plan tidy t deal w sound. plan_sound t deal plan tidy w sound
