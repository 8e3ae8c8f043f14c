-- A text has one first token that cannot stand where it stands, and one fault.
use Rattle.std.proofs.Common.{◌≡◌, ◌≢◌, ◌↔◌, ℕ, List, [], ◌∷◌, ◌++◌, refl, ap, sym, ◌∙◌, subst, None, Result, Ok, Err, IfOk, IfErr, append_assoc}
use Rattle.vd_report.specs.Hosts.{host_of}
use Rattle.vd_report.specs.Tokens.{tokens_at, text_of, capped}
use Rattle.vd_report.specs.declared.token.TokenKind.TheVariants as kind
use Rattle.vd_report.specs.declared.token.Token.{Token}
use Rattle.vd_report.specs.declared.fault.ReadFault.{ReadFault}
use Rattle.vd_report.specs.declared.fault.ReadFault.TheVariants.{Text, UnknownHost, Memory}
use Rattle.vd_report.specs.Outcome.{IsFaultOf, Accepts, Refuses, Begins, BeginsWith, IsFaultAt, FirstWrong}

-- where two ways to take one token out of a list part it
data Compared : List Token → Token → List Token → Token → Type 0 where
  same : {front front' : List Token} {t t' : Token} → front ≡ front' → t ≡ t' → Compared front t front' t'
  before : {front front' : List Token} {t t' : Token} (between : List Token) → front ++ t ∷ between ≡ front' → Compared front t front' t'
  after : {front front' : List Token} {t t' : Token} (between : List Token) → front' ++ t' ∷ between ≡ front → Compared front t front' t'

behind_one : {front front' : List Token} {t t' : Token} (u v : Token) → u ≡ v → Compared front t front' t' → Compared (u ∷ front) t (v ∷ front') t'
behind_one {front} {front'} {t} {t'} u v e (same is is') = same (ap (λ w. w ∷ front) e ∙ ap (λ us. v ∷ us) is) is'
behind_one {front} {front'} {t} {t'} u v e (before between is) = before between (ap (λ w. w ∷ (front ++ t ∷ between)) e ∙ ap (λ us. v ∷ us) is)
behind_one {front} {front'} {t} {t'} u v e (after between is) = after between (ap (λ w. w ∷ (front' ++ t' ∷ between)) (sym e) ∙ ap (λ us. u ∷ us) is)

compare : (front front' : List Token) (t t' : Token) (rest rest' : List Token) → front ++ t ∷ rest ≡ front' ++ t' ∷ rest' → Compared front t front' t'
compare [] [] t t' rest rest' e =
    let whole : t ∷ rest ≡ t' ∷ rest' = e in
    let is : t ≡ t' = cc in
    same refl is
compare [] (u ∷ us) t t' rest rest' e =
    let whole : t ∷ rest ≡ u ∷ (us ++ t' ∷ rest') = e in
    let is : t ≡ u = cc in
    before us (ap (λ v. v ∷ us) is)
compare (u ∷ us) [] t t' rest rest' e =
    let whole : u ∷ (us ++ t ∷ rest) ≡ t' ∷ rest' = e in
    let is : t' ≡ u = cc in
    after us (ap (λ v. v ∷ us) is)
compare (u ∷ us) (v ∷ vs) t t' rest rest' e =
    let whole : u ∷ (us ++ t ∷ rest) ≡ v ∷ (vs ++ t' ∷ rest') = e in
    let first : u ≡ v = cc in
    let more : us ++ t ∷ rest ≡ vs ++ t' ∷ rest' = cc in
    behind_one u v first (compare us vs t t' rest rest' more)

module _ (hosts : List (List ℕ)) (bytes : List ℕ) where
  -- what a step's fault tells of its token
  abbrev pub IsToldAt : Token → ReadFault → Type 0
  IsToldAt t (Text at) = at ≡ capped t.start
  IsToldAt t (UnknownHost at) = (at ≡ capped t.start) × (t.kind ≡ kind.Name) × (host_of hosts (text_of bytes t) ≡ None)
  IsToldAt t Memory = ⊥

  -- and that fault, where it is known whether the token could stand
  pub fault_is_at : (t : Token) (could_stand : Type 0) (fault : ReadFault) → IsToldAt t fault → ((at : ℕ) → fault ≡ UnknownHost at → could_stand) → ((at : ℕ) → fault ≡ Text at → could_stand → ⊥) → IsFaultAt hosts bytes t could_stand fault
  fault_is_at t could_stand (Text at) told stands stands_not = (told, stands_not at refl)
  fault_is_at t could_stand (UnknownHost at) told stands stands_not = (told.0, told.1, told.2, stands at refl)
  fault_is_at t could_stand Memory told stands stands_not = absurd told

module _ (IsText : List (List ℕ) → List ℕ → List Token → Type 0) (hosts : List (List ℕ)) (bytes : List ℕ) where
  one_fault_at : (t : Token) (could_stand : Type 0) (f g : ReadFault) → IsFaultAt hosts bytes t could_stand f → IsFaultAt hosts bytes t could_stand g → f ≡ g
  one_fault_at t could_stand (Text a) (Text b) h k = ap Text (h.0 ∙ sym k.0)
  one_fault_at t could_stand (Text a) (UnknownHost b) h k = absurd (h.1 k.3)
  one_fault_at t could_stand (Text a) Memory h k = absurd k
  one_fault_at t could_stand (UnknownHost a) (Text b) h k = absurd (k.1 h.3)
  one_fault_at t could_stand (UnknownHost a) (UnknownHost b) h k = ap UnknownHost (h.0 ∙ sym k.0)
  one_fault_at t could_stand (UnknownHost a) Memory h k = absurd k
  one_fault_at t could_stand Memory g h k = absurd h

  abbrev FaultBehind : ReadFault → List Token → Token → Type 0
  FaultBehind fault front t = IsFaultAt hosts bytes t (BeginsWith (IsText (hosts ++ text_of bytes t ∷ []) bytes) front t) fault

  -- no text goes past a token with which none begins
  none_past : (front longer : List Token) (t : Token) (between : List Token) → (BeginsWith (IsText hosts bytes) front t → ⊥) → front ++ t ∷ between ≡ longer → Begins (IsText hosts bytes) longer → ⊥
  none_past front longer t between none is b =
      none (between ++ b.0, subst (IsText hosts bytes) (ap (λ us. us ++ b.0) (sym is) ∙ append_assoc front (t ∷ between) b.0) b.1)

  one_fault_by : (f g : ReadFault) (a : FirstWrong IsText hosts bytes f) (b : FirstWrong IsText hosts bytes g) → Compared a.front a.wrong b.front b.wrong → f ≡ g
  one_fault_by f g a b (same is is') =
      let moved : FaultBehind f b.front b.wrong = subst (FaultBehind f b.front) is' (subst (λ front. FaultBehind f front a.wrong) is a.at_wrong) in
      one_fault_at b.wrong (BeginsWith (IsText (hosts ++ text_of bytes b.wrong ∷ []) bytes) b.front b.wrong) f g moved b.at_wrong
  one_fault_by f g a b (before between is) = absurd (none_past a.front b.front a.wrong between a.none_begins is b.begins)
  one_fault_by f g a b (after between is) = absurd (none_past b.front a.front b.wrong between b.none_begins is a.begins)

  one_fault : (f g : ReadFault) → FirstWrong IsText hosts bytes f → FirstWrong IsText hosts bytes g → f ≡ g
  one_fault f g a b = one_fault_by f g a b (compare a.front b.front a.wrong b.wrong a.behind b.behind (a.are ∙ sym b.are))

  -- a text whose values and faults are told has no other fault
  module _ {X : Type 0} (said : Result X ReadFault) (accepted : (x : X) → said ≡ Ok x → IsText hosts bytes (tokens_at bytes 0)) (refused : (fault : ReadFault) → said ≡ Err fault → FirstWrong IsText hosts bytes fault) where
    pub fault_said : (r : Result X ReadFault) → said ≡ r → (fault : ReadFault) → FirstWrong IsText hosts bytes fault → said ≡ Err fault
    fault_said (Ok x) e fault f = absurd (f.none_begins (f.behind, subst (IsText hosts bytes) (sym f.are) (accepted x e)))
    fault_said (Err other) e fault f = e ∙ ap Err (one_fault other fault (refused other e) f)

-- the answer of a reader that wants no memory is what the text says
module _ {X : Type 0} (said : Result X ReadFault) where
  fault_answer : (fault : ReadFault) → ◌≢◌ {A = Result X ReadFault} (Err fault) (Err Memory) → IsFaultOf said fault → Err fault ≡ said
  fault_answer (Text at) ample e = sym e
  fault_answer (UnknownHost at) ample e = sym e
  fault_answer Memory ample e = absurd (ample refl)

  answer_is : (result : Result X ReadFault) → IfOk result (λ x. said ≡ Ok x) → IfErr result (λ fault. IsFaultOf said fault) → result ≢ Err Memory → result ≡ said
  answer_is (Ok x) ok err ample = sym ok
  answer_is (Err fault) ok err ample = fault_answer fault ample err

  pub accepts : (Gives : X → Type 0) → ((x : X) → (said ≡ Ok x) ↔ Gives x) → (result : Result X ReadFault) → IfOk result (λ x. said ≡ Ok x) → IfErr result (λ fault. IsFaultOf said fault) → Accepts result Gives
  accepts Gives law result ok err ample x =
      let is = answer_is result ok err ample in
      (λ e. (law x).0 (sym is ∙ e), λ g. is ∙ (law x).1 g)

  pub refuses : (Has : ReadFault → Type 0) → ((fault : ReadFault) → (said ≡ Err fault) ↔ Has fault) → (result : Result X ReadFault) → IfOk result (λ x. said ≡ Ok x) → IfErr result (λ fault. IsFaultOf said fault) → Refuses result Has
  refuses Has law result ok err ample fault =
      let is = answer_is result ok err ample in
      (λ e. (law fault).0 (sym is ∙ e), λ h. is ∙ (law fault).1 h)
