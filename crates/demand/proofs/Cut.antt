-- One accepted call more: what it does to the trades, the sessions and the registers of a list of calls, and to the cut at the last session of a kind.
use Rattle.numbers.proofs.Words.{◌≡◌, refl, ap, ◌∙◌, Bool, true, false, cond, or-true, List, [], ◌∷◌, ◌++◌, some}
use Rattle.rules.specs.declared.book.{Book.Book}
use Rattle.numbers.proofs.Lists.{flat_map_last}
use Rattle.rules.specs.History.{Single, Accepted, Session, trade_of, session_of, register_of, trades, sessions, registers, holds, up_to_last, since_last, last_value}

-- one call more
abbrev pub more : List Accepted → Book → Single → List Accepted
more past b c = past ++ (record { book = b; call = c } ∷ [])

module _ (past : List Accepted) (b : Book) (c : Single) where
  pub trades_more : trades (more past b c) ≡ trades past ++ trade_of b c
  trades_more = flat_map_last (λ (a : Accepted). trade_of a.book a.call) past _

  pub sessions_more : sessions (more past b c) ≡ sessions past ++ session_of b c
  sessions_more = flat_map_last (λ (a : Accepted). session_of a.book a.call) past _

  pub registers_more : registers (more past b c) ≡ registers past ++ register_of b c
  registers_more = flat_map_last (λ (a : Accepted). register_of a.book a.call) past _

-- the value of the last session (01, Calls, 10)
value_last : (ss : List Session) (s : Session) → last_value (ss ++ (s ∷ [])) ≡ s.value
unfolding last_value
value_last [] s = refl
value_last (t ∷ []) s = refl
value_last (t ∷ u ∷ ss) s = value_last (u ∷ ss) s

pub value_more : (past : List Accepted) (b : Book) (c : Single) (s : Session) → session_of b c ≡ s ∷ [] → last_value (sessions (more past b c)) ≡ s.value
value_more past b c s one = ap last_value (sessions_more past b c ∙ ap (λ (ss : List Session). sessions past ++ ss) one) ∙ value_last (sessions past) s

-- the cut at the last session of a kind (01, Calls, 10)
module _ (kind : Session → Bool) (a : Accepted) where
  -- the call holds one: all calls are up to it, and none since
  module _ (held : holds kind a ≡ true) where
    some_held : (past : List Accepted) → some (holds kind) (past ++ (a ∷ [])) ≡ true
    unfolding some
    some_held [] = simp held
    some_held (x ∷ past) = rw (some_held past) (or-true (holds kind x))

    pub up_to_held : (past : List Accepted) → up_to_last kind (past ++ (a ∷ [])) ≡ past ++ (a ∷ [])
    unfolding up_to_last
    up_to_held [] = rw (some_held [])
    up_to_held (x ∷ past) = rw (some_held (x ∷ past), up_to_held past)

    pub since_held : (past : List Accepted) → since_last kind (past ++ (a ∷ [])) ≡ []
    unfolding since_last
    since_held [] = rw (some_held [])
    since_held (x ∷ past) = rw (some_held (x ∷ past)) (since_held past)

  -- it holds none: the cut stays, and the call comes after it
  module _ (other : holds kind a ≡ false) where
    some_other : (past : List Accepted) → some (holds kind) (past ++ (a ∷ [])) ≡ some (holds kind) past
    unfolding some
    some_other [] = simp other
    some_other (x ∷ past) = rw (some_other past)

    pub up_to_other : (past : List Accepted) → up_to_last kind (past ++ (a ∷ [])) ≡ up_to_last kind past
    unfolding up_to_last some
    up_to_other [] = simp other
    up_to_other (x ∷ past) = rw (some_other past, up_to_other past)

    pub since_other : (past : List Accepted) → since_last kind (past ++ (a ∷ [])) ≡ since_last kind past ++ (a ∷ [])
    unfolding since_last some
    since_other [] = simp other
    since_other (x ∷ past) = rw (some_other past, since_other past) (go (some (holds kind) (x ∷ past)))
      where
        go : (t : Bool) → cond t (since_last kind past ++ (a ∷ [])) (x ∷ (past ++ (a ∷ []))) ≡ cond t (since_last kind past) (x ∷ past) ++ (a ∷ [])
        go true = refl
        go false = refl
