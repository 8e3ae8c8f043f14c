-- The items that the joint run takes are there.
use Rattle.std.proofs.Common.{◌≡◌, ◌≢◌, ◌<◌, ℕ, zero, suc, Bool, if◌then◌else◌, List, [], ◌∷◌, Option, Some, None, refl, sym, ap, ◌∙◌, subst, arith}
use Rattle.std.proofs.lemmas.Bool.{ne_eqb}
use Rattle.vd_execution.specs.declared.instructions.Action.TheVariants as action
use Rattle.vd_execution.specs.Joint.{Hosts, acted, after_do, after_msg, fresh, has_heard, said_to}
use Rattle.vd_execution.specs.Registers.{put}
use Rattle.vd_execution.specs.Step.{Source, Inputs, OwnWords, Triples, BitTriples, Pairs, words_in}
use Rattle.vd_execution.specs.World.{Supply, Tape, followed_by_zeros}
use Rattle.vd_execution.specs.Claims.{Suffices, last_of}
use Rattle.vd_world.specs.Supplies.{supply_of_files}
use Rattle.vd_distributed.specs.Instance.{deals, inputs, register}
use Rattle.vd_distributed.proofs.Program.{joint}

abbrev supply : Supply
supply = supply_of_files inputs deals

abbrev tape : Tape
tape = followed_by_zeros supply

put_elsewhere : {A : Type 0} (f : ℕ → A) (i : ℕ) (a : A) (j : ℕ) → j ≢ i → put f i a j ≡ f j
unfolding put
put_elsewhere f i a j differ = ap (λ (test : Bool). if test then a else f j) (ne_eqb j i differ)

-- the hosts after each line of the joint code
abbrev taken : Hosts
taken = after_do tape 0 (action.Input register) fresh

abbrev moved : Hosts
moved = after_msg 0 (register ∷ []) 1 (register ∷ []) taken

abbrev last : Hosts
last = after_do tape 1 (action.Print register) moved

-- no other host does anything
elsewhere : (h : ℕ) → last (suc (suc h)) ≡ fresh (suc (suc h))
elsewhere h =
    put_elsewhere moved 1 (acted (tape 1) (action.Print register) (moved 1)) (suc (suc h)) (λ e. omega (arith, e))
    ∙ (put_elsewhere (put taken 0 (said_to 1 (words_in (taken 0).registers (register ∷ [])) (taken 0))) 1 (has_heard (register ∷ []) (words_in (taken 0).registers (register ∷ [])) (taken 1)) (suc (suc h)) (λ e. omega (arith, e))
    ∙ (put_elsewhere taken 0 (said_to 1 (words_in (taken 0).registers (register ∷ [])) (taken 0)) (suc (suc h)) (λ e. omega (arith, e))
    ∙ put_elsewhere fresh 0 (acted (tape 0) (action.Input register) (fresh 0)) (suc (suc h)) (λ e. omega (arith, e))))

abbrev cursors_one : Source → ℕ
cursors_one Inputs = 1
cursors_one other = 0

first : (source : Source) → (last 0).cursors source ≡ cursors_one source
unfolding put lib.Count.ones
first Inputs = refl
first OwnWords = refl
first (Triples p) = refl
first (BitTriples p) = refl
first (Pairs p) = refl

second : (source : Source) → (last 1).cursors source ≡ 0
unfolding put lib.Count.ones
second Inputs = refl
second OwnWords = refl
second (Triples p) = refl
second (BitTriples p) = refl
second (Pairs p) = refl

abbrev IsThere : Option (List ℕ) → Type 0
IsThere None = ⊥
IsThere (Some words) = Unit {0}

input_there : (i : ℕ) → i < 1 → supply 0 Inputs i ≢ None
input_there zero lt = λ e. subst IsThere e tt
input_there (suc i) lt = absurd (omega (arith, lt))

there : (source : Source) (i : ℕ) → i < cursors_one source → supply 0 source i ≢ None
there Inputs i lt = input_there i lt
there OwnWords i lt = absurd (omega (arith, lt))
there (Triples p) i lt = absurd (omega (arith, lt))
there (BitTriples p) i lt = absurd (omega (arith, lt))
there (Pairs p) i lt = absurd (omega (arith, lt))

pub enough_of_joint : Suffices supply (last_of supply joint)
enough_of_joint zero source i lt = there source i (subst (λ (n : ℕ). i < n) (first source) lt)
enough_of_joint (suc zero) source i lt = absurd (let none = second source in omega (arith, lt, none))
enough_of_joint (suc (suc h)) source i lt = absurd (let none : (last (suc (suc h))).cursors source ≡ 0 = ap (λ x. x.cursors source) (elsewhere h) in omega (arith, lt, none))
