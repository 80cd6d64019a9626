-- A member that is put among members in byte order leaves them in byte order.
use Rattle.std.proofs.Common.{◌≡◌, true, false, List, ℕ, Ordering, Less, Equal, Greater, nat_cmp, refl, sym, ap, ◌∙◌}
use Rattle.std.specs.Ordering.{match_ordering, ordering_reverse}
use Rattle.std.specs.Cmp.Lexicographic.{slice_cmp}
use Rattle.std.proofs.lemmas.Cmp.{nat_list_cmp_total}
use Rattle.serde_json.specs.Data.{Data, Members, no_members, member, put}
use Rattle.link_port.specs.SoundTrees.{IsSound, AreBehind, AreSoundMembers}
use Rattle.idl_tree.specs.Names.{Bytes}

abbrev cmp : Bytes → Bytes → Ordering
cmp = slice_cmp nat_cmp

pub swap_less : (k l : Bytes) → cmp k l ≡ Less → cmp l k ≡ Greater
swap_less k l h = nat_list_cmp_total.antisymm l k ∙ ap ordering_reverse h

swap_greater : (k l : Bytes) → cmp k l ≡ Greater → cmp l k ≡ Less
swap_greater k l h = nat_list_cmp_total.antisymm l k ∙ ap ordering_reverse h

-- a key behind another is behind all that it is behind
farther : (k l m : Bytes) → cmp k l ≡ Less → cmp m l ≡ Greater → cmp m k ≡ Greater
farther k l m kl ml = swap_less k m (nat_list_cmp_total.trans k l m kl (swap_greater m l ml))

behind_less : (k l : Bytes) (ms : Members) → cmp k l ≡ Less → AreBehind l ms → AreBehind k ms
behind_less k l no_members kl h = tt
behind_less k l (member m d ms) kl h = (farther k l m kl h.0, behind_less k l ms kl h.1)

behind_by : (o : Ordering) (l : Bytes) (a b c : Members) → (o ≡ Less → AreBehind l a) → (o ≡ Equal → AreBehind l b) → (o ≡ Greater → AreBehind l c)
    → AreBehind l (match_ordering o a b c)
behind_by Less l a b c ha hb hc = ha refl
behind_by Equal l a b c ha hb hc = hb refl
behind_by Greater l a b c ha hb hc = hc refl

behind_put : (l k : Bytes) (d : Data) (ms : Members) → cmp k l ≡ Greater → AreBehind l ms → AreBehind l (put k d ms)
behind_put l k d no_members kl h = (kl, tt)
behind_put l k d (member m e ms) kl h =
    behind_by (cmp k m) l (member k d (member m e ms)) (member m d ms) (member m e (put k d ms))
    (λ _. (kl, h)) (λ _. (h.0, h.1)) (λ _. (h.0, behind_put l k d ms kl h.1))

sound_by : (o : Ordering) (a b c : Members) → (o ≡ Less → AreSoundMembers a) → (o ≡ Equal → AreSoundMembers b) → (o ≡ Greater → AreSoundMembers c)
    → AreSoundMembers (match_ordering o a b c)
sound_by Less a b c ha hb hc = ha refl
sound_by Equal a b c ha hb hc = hb refl
sound_by Greater a b c ha hb hc = hc refl

pub put_sound : (k : Bytes) (d : Data) (ms : Members) → IsSound d → AreSoundMembers ms → AreSoundMembers (put k d ms)
put_sound k d no_members sound h = (tt, sound, tt)
put_sound k d (member l e ms) sound h =
    sound_by (cmp k l) (member k d (member l e ms)) (member l d ms) (member l e (put k d ms))
    (λ less. ((swap_less k l less, behind_less k l ms less h.0), sound, h))
    (λ _. (h.0, sound, h.2))
    (λ greater. (behind_put l k d ms greater h.0, h.1, put_sound k d ms sound h.2))
