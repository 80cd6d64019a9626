-- What became of the connections of a door, seen through a part of what attends them.
use Rattle.std.proofs.Common.{◌≡◌, ℕ, ◌+◌, ◌<◌, ◌≤◌, suc, List, [], ◌∷◌, ◌++◌, length, Option, Some, None, refl, sym, ap, ◌∙◌, subst, arith, append_assoc, append-nil}
use Rattle.std.specs.Prelude.{IfSome, MatchOption, option_map}
use Rattle.std.proofs.lemmas.List.{length-append}
use Rattle.link_doors.specs.Accepts.{Takes}
use Rattle.link_doors.specs.Visits.{Visit}
use Rattle.door_serving.specs.Attended.{Attends, Attended, AttendedInOrder, AttendedAndBack, GaveInOrder, ServedDoor}

module _ {A B C : Type 0} (f : A → B) (attends : Attends B) (left written : C → Option (List ℕ)) where
  abbrev through : Attends A
  through a b = attends (f a) (f b)

  in_order_through : (a b : A) (conns : List C) (visits : List Visit) → AttendedInOrder through left written a conns visits b
      → AttendedInOrder attends left written (f a) conns visits (f b)
  in_order_through a b [] [] all = ap f all
  in_order_through a b [] (visit ∷ visits) all = absurd all
  in_order_through a b (conn ∷ conns) [] all = absurd all
  in_order_through a b (conn ∷ conns) (visit ∷ visits) all =
      let one = all.1 in (
        f all.0,
        record { why = one.why; session = one.session; how = one.how },
        in_order_through all.0 b conns visits all.2,
      )

  pub served_through : (a b : A) (coming coming' : Option (List C)) (back back' : Option (List Visit)) (number : ℕ)
      → ServedDoor through left written a b coming coming' back back' number
      → ServedDoor attends left written (f a) (f b) coming coming' back back' number
  served_through a b coming coming' back back' number served = record {
    conns = served.conns;
    visits = served.visits;
    last = served.last;
    count = served.count;
    gave = served.gave;
    rest = served.rest;
    returned = served.returned;
    attended = in_order_through a b served.conns served.visits served.attended;
  }

module _ {A C : Type 0} (attends : Attends A) (left written : C → Option (List ℕ)) where
  in_order_one_more : (a b c : A) (conns : List C) (visits : List Visit) (conn : C) (visit : Visit)
      → AttendedInOrder attends left written a conns visits b → Attended attends b c (left conn) (written conn) visit
      → AttendedInOrder attends left written a (conns ++ conn ∷ []) (visits ++ visit ∷ []) c
  in_order_one_more a b c [] [] conn visit all one = (c, subst (λ x. Attended attends x c (left conn) (written conn) visit) all one, refl)
  in_order_one_more a b c [] (v ∷ visits) conn visit all one = absurd all
  in_order_one_more a b c (d ∷ conns) [] conn visit all one = absurd all
  in_order_one_more a b c (d ∷ conns) (v ∷ visits) conn visit all one =
      (all.0, all.1, in_order_one_more all.0 b c conns visits conn visit all.2 one)

  gave_one_more : (coming last after : Option (List C)) (conns : List C) (conn : C) → GaveInOrder coming conns last
      → IfSome last (λ all. Takes all after (Some conn)) → GaveInOrder coming (conns ++ conn ∷ []) after
  gave_one_more coming last after [] conn gave next =
      (after, subst (λ (o : Option (List C)). IfSome o (λ all. Takes all after (Some conn))) gave next, refl)
  gave_one_more coming last after (d ∷ conns) conn gave next =
      (gave.0, gave.1, gave_one_more gave.0 last after conns conn gave.2 next)

  map_map : (back : Option (List Visit)) (visits more : List Visit)
      → option_map (λ (before : List Visit). before ++ more) (option_map (λ (before : List Visit). before ++ visits) back)
      ≡ option_map (λ (before : List Visit). before ++ (visits ++ more)) back
  map_map None visits more = refl
  map_map (Some before) visits more = ap Some (append_assoc before visits more)

  returned_none : (back : Option (List Visit)) → back ≡ option_map (λ (before : List Visit). before ++ []) back
  returned_none None = refl
  returned_none (Some before) = ap Some (sym (append-nil before))

  -- so far so many connections were given and attended
  pub record SoFar (a b : A) (coming last : Option (List C)) (back back' : Option (List Visit)) (number : ℕ) : Type 0 where
    pub conns : List C
    pub visits : List Visit
    pub count : length conns ≡ number
    pub gave : GaveInOrder coming conns last
    pub returned : back' ≡ option_map (λ (before : List Visit). before ++ visits) back
    pub attended : AttendedInOrder attends left written a conns visits b

  pub none_yet : (a : A) (coming : Option (List C)) (back : Option (List Visit)) → SoFar a a coming coming back back 0
  none_yet a coming back = record {
    conns = [];
    visits = [];
    count = refl;
    gave = refl;
    returned = returned_none back;
    attended = refl;
  }

  pub one_more : (a b c : A) (coming last after : Option (List C)) (back mid back' : Option (List Visit)) (number : ℕ) (conn : C)
      → SoFar a b coming last back mid number → IfSome last (λ all. Takes all after (Some conn))
      → AttendedAndBack attends b c (left conn) (written conn) mid back'
      → SoFar a c coming after back back' (number + 1)
  one_more a b c coming last after back mid back' number conn so next one =
      let more : length (so.conns ++ conn ∷ []) ≡ length so.conns + 1 = length-append so.conns (conn ∷ []) in
      let count = so.count in
      record {
        conns = so.conns ++ conn ∷ [];
        visits = so.visits ++ one.visit ∷ [];
        count = omega arith;
        gave = gave_one_more coming last after so.conns conn so.gave next;
        returned = one.returned ∙ (ap (option_map (λ (before : List Visit). before ++ one.visit ∷ [])) so.returned ∙ map_map back so.visits (one.visit ∷ []));
        attended = in_order_one_more a b c so.conns so.visits conn one.visit so.attended one.attended;
      }

  pub all_given : (a b : A) (coming last coming' : Option (List C)) (back back' : Option (List Visit)) (number : ℕ)
      → SoFar a b coming last back back' number → IfSome last (λ later. coming' ≡ Some later)
      → ServedDoor attends left written a b coming coming' back back' number
  all_given a b coming last coming' back back' number so rest = record {
    conns = so.conns;
    visits = so.visits;
    last = last;
    count = so.count;
    gave = so.gave;
    rest = rest;
    returned = so.returned;
    attended = so.attended;
  }

  -- no more were given back than given
  visits_count : (a b : A) (conns : List C) (visits : List Visit) → AttendedInOrder attends left written a conns visits b → length visits ≡ length conns
  visits_count a b [] [] all = refl
  visits_count a b [] (visit ∷ visits) all = absurd all
  visits_count a b (conn ∷ conns) [] all = absurd all
  visits_count a b (conn ∷ conns) (visit ∷ visits) all = ap suc (visits_count all.0 b conns visits all.2)

  -- fewer were given back than given, once one more was given
  pub still_out : (a b : A) (coming last : Option (List C)) (back mid : Option (List Visit)) (number given given' : ℕ)
      → SoFar a b coming last back mid number → IfSome back (λ visits. length visits ≤ given) → given' ≡ (given + number) + 1
      → IfSome mid (λ visits. length visits < given')
  still_out a b coming last back mid number given given' so out one =
      let count = visits_count a b so.conns so.visits so.attended in
      let conns = so.count in
      subst (λ (o : Option (List Visit)). IfSome o (λ visits. length visits < given')) (sym so.returned) (go back out count conns)
    where
      go : (back : Option (List Visit)) → IfSome back (λ visits. length visits ≤ given) → length so.visits ≡ length so.conns → length so.conns ≡ number
          → IfSome (option_map (λ (before : List Visit). before ++ so.visits) back) (λ visits. length visits < given')
      go None out count conns = tt
      go (Some before) out count conns =
          let sum : length (before ++ so.visits) ≡ length before + length so.visits = length-append before so.visits in
          omega arith

-- what is said of an option that is there
pub match_some : {C : Type 0} (o : Option C) (x : C) (P : Type 0) (Q : C → Type 0) → o ≡ Some x → MatchOption o P Q → Q x
match_some o x P Q is m = subst (λ (p : Option _). MatchOption p P Q) is m
