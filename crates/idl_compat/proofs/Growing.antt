-- what holds of the bodies of tables holds when these have more bodies
use Rattle.std.proofs.Common.{◌≡◌, ℕ, Option, Some, None, sym, subst}
use Rattle.std.specs.Prelude.{List, Result, IfOk}
use Rattle.idl_tree.specs.Names.{Bytes}
use Rattle.idl_tree.specs.declared.trees.Interface.{Interface}
use Rattle.idl_tree.specs.declared.trees.Body.{Body}
use Rattle.idl_compat.specs.Within.{Scopes, Within, bodies}
use Rattle.idl_compat.specs.Numbers.{Grown, Gained, body_at}
use Rattle.idl_compat.specs.Walks.{Seen, scopes_of, body_in, AreAt, IsWithin, AllWithin, Found, FoundIn}
use Rattle.idl_compat.specs.declared.numbers.Table.{Table}
use Rattle.idl_compat.proofs.Numbering.{body_along}
use Rattle.idl_compat.proofs.Visiting.{if_ok}

-- a table of the same definition with more bodies
pub record IsLonger (before after : Table) : Type 0 where
  pub scope : after.scope.now ≡ before.scope.now
  pub grown : Grown before.scope.now before.inner.items after.inner.items

in_longer : (before after : Table) (n : ℕ) (body : Body) → after.scope.now ≡ before.scope.now → body_at before.scope.now after.inner.items n ≡ Some body → body_in after n ≡ Some body
in_longer before after n body same h = subst (λ (scope : Interface). body_at scope after.inner.items n ≡ Some body) (sym same) h

still_in : (before after : Table) (n : ℕ) (body : Body) → IsLonger before after → body_in before n ≡ Some body → body_in after n ≡ Some body
still_in before after n body long h = in_longer before after n body long.scope (body_along before.scope.now before.inner.items after.inner.items n body long.grown h)

same_scopes : (from from' to to' : Table) → IsLonger from from' → IsLonger to to' → scopes_of from' to' ≡ scopes_of from to
same_scopes from from' to to' one other = λ i. (one.scope i, other.scope i)

within_still : (from from' to to' : Table) (n m : ℕ) → IsLonger from from' → IsLonger to to' → IsWithin from to n m → IsWithin from' to' n m
within_still from from' to to' n m one other w = record {
  body = w.body;
  reads = w.reads;
  at = (still_in from from' n w.body one w.at.0, still_in to to' m w.reads other w.at.1);
  within = subst (λ (scopes : Scopes). Within scopes (bodies w.body w.reads)) (sym (same_scopes from from' to to' one other)) w.within;
}

pub all_still : (from from' to to' : Table) (seen : Seen) → IsLonger from from' → IsLonger to to' → AllWithin from to seen → AllWithin from' to' seen
all_still from from' to to' seen one other all n m is = within_still from from' to to' n m one other (all n m is)

pub longer : (before after : Table) (body : Body) (n : ℕ) → after.scope.now ≡ before.scope.now → Gained before.scope.now before.inner.items after.inner.items body n → IsLonger before after
longer before after body n same gained = record { scope = same; grown = gained.grown }

pub both_at : (from from' to to' : Table) (n m : ℕ) (body reads : Body) → from'.scope.now ≡ from.scope.now → to'.scope.now ≡ to.scope.now
    → Gained from.scope.now from.inner.items from'.inner.items body n → Gained to.scope.now to.inner.items to'.inner.items reads m → AreAt from' to' n m body reads
both_at from from' to to' n m body reads one other first second = (in_longer from from' n body one first.here, in_longer to to' m reads other second.here)

as_found : (from to : Table) (body reads : Body) (path : Option (List Bytes)) → Found from to body reads path → FoundIn (scopes_of from to) body reads path
as_found from to body reads None h = h
as_found from to body reads (Some path) h = h

pub found_still : {E : Type 0} (from from' to to' : Table) (n m : ℕ) (body reads : Body) (r : Result (Option (List Bytes)) E) → IsLonger from from' → IsLonger to to' → AreAt from' to' n m body reads
    → IfOk r (λ path. (b s : Body) → AreAt from' to' n m b s → Found from' to' b s path) → IfOk r (FoundIn (scopes_of from to) body reads)
found_still from from' to to' n m body reads r one other at found =
    if_ok r (λ path told. subst (λ (scopes : Scopes). FoundIn scopes body reads path) (same_scopes from from' to to' one other) (as_found from' to' body reads path (told body reads at))) found
