-- A response from its heads and its body.
use Rattle.std.proofs.Common.{◌≡◌, inl, inr, ℕ, ◌+◌, ◌≤◌, true, false, List, [], ◌∷◌, ◌++◌, length, length-append, Option, Some, None, Ok, Err, Vec, Global, refl, sym, ap, subst, ◌∙◌, arith, append_assoc}
use Rattle.std.proofs.lemmas.List.{append-nil}
use Rattle.std.proofs.lemmas.List.Elements.{All-push, All-nil}
use Rattle.std.proofs.lemmas.Grind.{flat_map-append}
use Rattle.std.specs.List.{flat_map}
use Rattle.std.specs.Io.KnownBytes.{Consumes}
use Rattle.edge_kit.proofs.TellingLemmas.{Consumes-trans, Consumes-nil}
use Rattle.httparse.specs.Grammar.{ResponseHead}
use Rattle.http_wire.specs.declared.message.Response.{Response}
use Rattle.http_wire.specs.declared.message.WireFault.{WireFault}
use Rattle.http_wire.specs.declared.message.WireFault.TheVariants as fault
use Rattle.http_wire.specs.Fronts.{Within, StopsWithin}
use Rattle.http_wire.specs.Heads.{SpellsResponseHead, IsResponseText, head_limit}
use Rattle.http_wire.specs.Framings.{Pair, encoding_of, framing_of, body_limit}
use Rattle.http_wire.specs.Parts.{parts_of}
use Rattle.http_wire.specs.Bodies.{IsNoBody, IsLongBody}
use Rattle.http_wire.specs.Steps.{Took}
use Rattle.http_wire.specs.Plain.{PlainStep}
use Rattle.http_wire.specs.Messages.{HasResponseHead, SpellsResponse, BeginsResponse, HasNoResponseHead, IsNoResponse, IsInterim, AreInterim, IsFinalHead, is_interim}

pub no_interim : (a : Option (List ℕ)) → Took a a (AreInterim 0)
no_interim a = record {
  bytes = [];
  taken = Consumes-nil a;
  holds = record { each = []; are = All-nil IsInterim; count_is = refl; text_is = refl };
}

-- a head that was read
pub record HeadTaken (b c : Option (List ℕ)) (r : Response) : Type 0 where
  pub text : List ℕ
  pub taken : Consumes b c text
  pub short : length text ≤ head_limit
  pub tree : ResponseHead
  pub spells : SpellsResponseHead text tree
  pub has : HasResponseHead tree r

pub head_taken : (b c : Option (List ℕ)) (text : List ℕ) (r : Response) → Consumes b c text → Within IsResponseText head_limit text → (h : ResponseHead) × SpellsResponseHead text h × HasResponseHead h r → HeadTaken b c r
head_taken b c text r taken within h = record { text = text; taken = taken; short = within.short; tree = h.0; spells = h.1; has = h.2 }

pub interim_more : (a b c : Option (List ℕ)) (n : ℕ) (r : Response) → Took a b (AreInterim n) → HeadTaken b c r → is_interim r.status ≡ true → Took a c (AreInterim (n + 1))
interim_more a b c n r took head e = record {
  bytes = took.bytes ++ head.text;
  taken = Consumes-trans a b c took.bytes head.text took.taken head.taken;
  holds = record {
    each = took.holds.each ++ head.text ∷ [];
    are = All-push IsInterim took.holds.each head.text took.holds.are (record { tree = head.tree; spells = head.spells; short = head.short; status = ap is_interim (sym head.has.status) ∙ e });
    count_is = omega (arith, took.holds.count_is, length-append took.holds.each (head.text ∷ []));
    text_is =
        ap (λ u. u ++ head.text) took.holds.text_is
        ∙ ap (λ u. flat_map (λ t. t) took.holds.each ++ u) (sym (append-nil head.text))
        ∙ sym (flat_map-append (λ t. t) took.holds.each (head.text ∷ []));
  };
}

pub final_head : (a b c : Option (List ℕ)) (n : ℕ) (r : Response) → Took a b (AreInterim n) → n ≤ 8 → HeadTaken b c r → is_interim r.status ≡ false → Took a c (λ t. IsFinalHead t r)
final_head a b c n r took few head e = record {
  bytes = took.bytes ++ head.text;
  taken = Consumes-trans a b c took.bytes head.text took.taken head.taken;
  holds = record {
    count = n;
    few = few;
    front = took.bytes;
    interim = took.holds;
    head = head.text;
    split = refl;
    tree = head.tree;
    spells = head.spells;
    short = head.short;
    final = ap is_interim (sym head.has.status) ∙ e;
    has = head.has;
  };
}

pub head_stuck : (a b c : Option (List ℕ)) (n : ℕ) (taken : List ℕ) → Took a b (AreInterim n) → n ≤ 8 → Consumes b c taken → StopsWithin IsResponseText head_limit taken c → Took a c (λ t. HasNoResponseHead t c)
head_stuck a b c n taken took few t s = record {
  bytes = took.bytes ++ taken;
  taken = Consumes-trans a b c took.bytes taken took.taken t;
  holds = record { count = n; front = took.bytes; tail = taken; interim = took.holds; split = refl; why = inl (few, s) };
}

pub nine_heads : (a b : Option (List ℕ)) (n : ℕ) → Took a b (AreInterim n) → n ≡ 9 → Took a b (λ t. HasNoResponseHead t b)
nine_heads a b n took e = record {
  bytes = took.bytes;
  taken = took.taken;
  holds = record { count = n; front = took.bytes; tail = []; interim = took.holds; split = sym (append-nil took.bytes); why = inr (e, refl) };
}

abbrev pub with_body : Response → Vec ℕ Global → Response
with_body r body = record r { body = body }

pub response_read : (a b c : Option (List ℕ)) (r : Response) (body : Vec ℕ Global) → Took a b (λ t. IsFinalHead t r) → Took b c (PlainStep true (parts_of r.fields.items) c (Ok tt) body.items) → Took a c (λ bytes. SpellsResponse bytes c (with_body r body))
response_read a b c r body head took = record {
  bytes = head.bytes ++ took.bytes;
  taken = Consumes-trans a b c head.bytes took.bytes head.taken took.taken;
  holds = record {
    count = head.holds.count;
    few = head.holds.few;
    front = head.holds.front;
    interim = head.holds.interim;
    head = head.holds.head;
    tail = took.bytes;
    split = ap (λ u. u ++ took.bytes) head.holds.split ∙ append_assoc head.holds.front head.holds.head took.bytes;
    tree = head.holds.tree;
    spells = head.holds.spells;
    short = head.holds.short;
    final = head.holds.final;
    has = record { status = head.holds.has.status; fields = head.holds.has.fields };
    plain = took.holds.0;
    body = took.holds.1;
  };
}

pub begins_response : (P : List Pair → List ℕ → Type 0) (a b c : Option (List ℕ)) (r : Response) → Took a b (λ t. IsFinalHead t r) → Took b c (P (parts_of r.fields.items)) → Took a c (BeginsResponse P)
begins_response P a b c r head took =
    let Q : List Pair → Type 0 = λ fields. P fields took.bytes in
    record {
      bytes = head.bytes ++ took.bytes;
      taken = Consumes-trans a b c head.bytes took.bytes head.taken took.taken;
      holds = record {
        count = head.holds.count;
        few = head.holds.few;
        front = head.holds.front;
        interim = head.holds.interim;
        head = head.holds.head;
        tail = took.bytes;
        split = ap (λ u. u ++ took.bytes) head.holds.split ∙ append_assoc head.holds.front head.holds.head took.bytes;
        tree = head.holds.tree;
        spells = head.holds.spells;
        short = head.holds.short;
        final = head.holds.final;
        about = subst Q head.holds.has.fields took.holds;
      };
    }

-- what a fault of the body makes of the response
pub response_faulty : (a b c : Option (List ℕ)) (r : Response) (body : List ℕ) (f : WireFault) → Took a b (λ t. IsFinalHead t r) → Took b c (PlainStep true (parts_of r.fields.items) c (Err f) body) → Took a c (λ bytes. IsNoResponse bytes c f)
response_faulty a b c r body fault.BadHead head took = absurd took.holds
response_faulty a b c r body fault.BadBody head took = begins_response (λ fields tail. (encoding_of fields ≡ None) × IsNoBody (framing_of fields) tail c) a b c r head took
response_faulty a b c r body (fault.TooLong n) head took = begins_response (λ fields tail. (n ≡ body_limit) × (encoding_of fields ≡ None) × IsLongBody true (framing_of fields) tail) a b c r head took
response_faulty a b c r body (fault.Encoded v) head took = begins_response (λ fields tail. (encoding_of fields ≡ Some v.items) × (tail ≡ [])) a b c r head took
response_faulty a b c r body fault.Link head took = record { bytes = head.bytes ++ took.bytes; taken = Consumes-trans a b c head.bytes took.bytes head.taken took.taken; holds = tt }
response_faulty a b c r body fault.OutOfMemory head took = record { bytes = head.bytes ++ took.bytes; taken = Consumes-trans a b c head.bytes took.bytes head.taken took.taken; holds = tt }
