-- A request that was read has its moment within the limit, and a file that it merges lists each key once.
use Rattle.std.proofs.Common.{◌≡◌, ℕ, ◌≤◌, Bool, true, false, cond, List, Option, Some, None, Result, Ok, Err, refl, sym, subst, nat_le, bytes_eq, arith}
use Rattle.std.specs.Prelude.{is_some, ok_or, unwrap_or, IfOk, codes}
use Rattle.std.proofs.lemmas.Grind.{common_steps}
use Rattle.edge_kit.specs.declared.bytes.PubKey.{PubKey}
use Rattle.serde_json.specs.Data.{Data}
use Rattle.serde_json.specs.Find.{get, as_object, as_str}
use Rattle.std.specs.Option.{option_and_then}
use Rattle.edge_kit.specs.Texts.{quoted_number}
use Rattle.slash_defs.specs.declared.book.File.{File}
use Rattle.interchange_io.specs.Reading.{file_of}
use Rattle.interchange_io.specs.declared.fault.ReadFault.{ReadFault}
use Rattle.interchange_io.proofs.FileLemmas.{lists_once}
use Rattle.phase0_types.specs.Values.{ValueOf}
use Rattle.phase0_types.specs.Reading.{read_at}
use Rattle.phase0_types.specs.Containers.{attestation_data, beacon_block_header}
use Rattle.phase0_types.specs.declared.fault.ReadFault.{ReadFault as ShapeFault}
use Rattle.altair_blocks.specs.AnyBlocks.{BlockValue, read_block}
use Rattle.altair_blocks.specs.declared.any_block.AnyBlock.{AnyBlock}
use Rattle.sign_roots.specs.declared.domains.Domains.{Domains}
use Rattle.signer_link.specs.declared.request.SignObject.TheVariants as object
use Rattle.desk_machine.specs.Machine.{moment_limit}
use Rattle.session_format.specs.Blocks.{block_from}
use Rattle.session_format.specs.Steps.{◌>>=◌}
use Rattle.session_format.specs.WholeBlocks.{fitting_block, is_of_slot, read_whole, whole_message}
use Rattle.session_format.specs.declared.chain.SessionChain.{SessionChain}
use Rattle.session_format.specs.Requests.{data_of, request_of, of_data, members_of, op_in, by_op, text_at, key_at, merge_at, merge_in, merge_of, activate_at, block_at, block_by, plain_block, header_block, headless_block, version_in, versioned_block, whole_block, vote_at, vote_by, plain_vote, details_vote, export_at, asked_keys, prune_at, import_at, import_of, delete_at, keys_in, epoch_at, epoch_in, moment_in, number_at, root_at, live_at, truth_at}
use Rattle.custody_format.specs.Imports.{import_of as with_file, import_with, import_by, import_paired, import_lists}
use Rattle.custody_format.specs.Keystores.{keystores_of}
use Rattle.custody_format.specs.Lists.{texts_in}
use Rattle.session_format.specs.declared.request.Op.TheVariants as op
use Rattle.session_format.specs.declared.member.Member.{Member}
use Rattle.session_format.specs.declared.member.Member.TheVariants as member
use Rattle.session_format.specs.declared.request.Request.{Request}
use Rattle.session_run.specs.Acts.{ListsOnce}

-- what was read, if anything, is such
abbrev IfRead : {A : Type 0} → (A → Type 0) → Result A Member → Type 0
IfRead P (Ok x) = P x
IfRead P (Err e) = Unit {0}

then : {A B : Type 0} (Q : B → Type 0) (r : Result A Member) (f : A → Result B Member) → ((x : A) → IfRead Q (f x)) → IfRead Q (r >>= f)
then Q (Ok x) f h = h x
then Q (Err e) f h = tt

then_such : {A B : Type 0} (P : A → Type 0) (Q : B → Type 0) (r : Result A Member) (f : A → Result B Member) → IfRead P r → ((x : A) → P x → IfRead Q (f x)) → IfRead Q (r >>= f)
then_such P Q (Ok x) f p h = h x p
then_such P Q (Err e) f p h = tt

by_test : {A : Type 0} (P : A → Type 0) (b : Bool) (x y : Result A Member) → IfRead P x → IfRead P y → IfRead P (cond b x y)
by_test P true x y h k = h
by_test P false x y h k = k

-- ---- what each op asks for

merge_such : (text : List ℕ) (r : Result File ReadFault) → file_of text ≡ r → ListsOnce (merge_of r)
merge_such text (Ok file) e = lists_once text file e
merge_such text (Err fault) e = tt

merges : (text : Option (List ℕ)) → IfRead ListsOnce (merge_in text)
merges None = tt
merges (Some text) = merge_such text (file_of text) refl

plain_blocks : (key : PubKey) (d : Data) → IfRead ListsOnce (plain_block key d)
plain_blocks key d = then ListsOnce (number_at (codes "slot") member.Slot d) _ (λ slot. then ListsOnce (root_at d) _ (λ signing. tt))

header_blocks : (domains : Domains) (key : PubKey) (r : Result (ValueOf beacon_block_header) ShapeFault) → IfRead ListsOnce (header_block domains key r)
header_blocks domains key (Ok v) = tt
header_blocks domains key (Err e) = tt

fitting_blocks : (chain : SessionChain) (key : PubKey) (block : AnyBlock) → IfRead ListsOnce (fitting_block chain key block)
fitting_blocks chain key block = by_test ListsOnce (is_of_slot chain.altair block) (Ok (op.Propose key (whole_message chain.domains block) (Some (object.Block block)))) (Err member.Version) tt tt

read_blocks : (chain : SessionChain) (key : PubKey) (r : Result BlockValue ShapeFault) → IfRead ListsOnce (read_whole chain key r)
read_blocks chain key (Ok v) = fitting_blocks chain key (block_from v)
read_blocks chain key (Err e) = tt

versioned_blocks : (chain : SessionChain) (key : PubKey) (d : Data) → IfRead ListsOnce (versioned_block chain key d)
versioned_blocks chain key d = then ListsOnce (version_in d) _ (λ version. then ListsOnce (ok_or (get (codes "block") d) member.Block) _ (λ block. read_blocks chain key (read_block version block)))

whole_blocks : (chain : SessionChain) (key : PubKey) (d : Data) → IfRead ListsOnce (whole_block chain key d)
whole_blocks chain key d = by_test ListsOnce (is_some (as_object d)) (versioned_block chain key d) (Err member.BeaconBlock) (versioned_blocks chain key d) tt

headless_blocks : (chain : SessionChain) (key : PubKey) (d : Data) (block : Option Data) → IfRead ListsOnce (headless_block chain key d block)
headless_blocks chain key d None = plain_blocks key d
headless_blocks chain key d (Some block) = whole_blocks chain key block

blocks_by : (chain : SessionChain) (key : PubKey) (d : Data) (header : Option Data) → IfRead ListsOnce (block_by chain key d header)
blocks_by chain key d None = headless_blocks chain key d (get (codes "beacon_block") d)
blocks_by chain key d (Some header) = header_blocks chain.domains key (read_at beacon_block_header None header)

plain_votes : (key : PubKey) (d : Data) → IfRead ListsOnce (plain_vote key d)
plain_votes key d = then ListsOnce (number_at (codes "source_epoch") member.SourceEpoch d) _ (λ source. then ListsOnce (number_at (codes "target_epoch") member.TargetEpoch d) _ (λ target. then ListsOnce (root_at d) _ (λ signing. tt)))

details_votes : (domains : Domains) (key : PubKey) (r : Result (ValueOf attestation_data) ShapeFault) → IfRead ListsOnce (details_vote domains key r)
details_votes domains key (Ok v) = tt
details_votes domains key (Err e) = tt

votes_by : (chain : SessionChain) (key : PubKey) (d : Data) (details : Option Data) → IfRead ListsOnce (vote_by chain key d details)
votes_by chain key d None = plain_votes key d
votes_by chain key d (Some details) = details_votes chain.domains key (read_at attestation_data None details)

import_read : (keystores : List (List ℕ × List ℕ)) (text : List ℕ) (r : Result File ReadFault) → file_of text ≡ r → IfRead ListsOnce (import_of (with_file keystores r))
import_read keystores text (Ok file) e = lists_once text file e
import_read keystores text (Err f) e = tt

import_text : (keystores : List (List ℕ × List ℕ)) (text : Option (List ℕ)) → IfRead ListsOnce (import_of (import_with keystores text))
import_text keystores None = tt
import_text keystores (Some text) = import_read keystores text (file_of text) refl

import_rest : (keystores : List (List ℕ × List ℕ)) (protection : Option Data) → IfRead ListsOnce (import_of (import_by keystores protection))
import_rest keystores None = tt
import_rest keystores (Some d) = import_text keystores (as_str d)

import_pairs : (pairs : Option (List (List ℕ × List ℕ))) (protection : Option Data) → IfRead ListsOnce (import_of (import_paired pairs protection))
import_pairs None protection = tt
import_pairs (Some keystores) protection = import_rest keystores protection

import_texts : (keystores passwords : Option (List (List ℕ))) (protection : Option Data) → IfRead ListsOnce (import_of (import_lists keystores passwords protection))
import_texts None passwords protection = tt
import_texts (Some keystores) None protection = tt
import_texts (Some keystores) (Some passwords) protection = import_pairs (keystores_of (λ text. text) keystores passwords) protection

imports : (d : Data) → IfRead ListsOnce (import_at d)
imports d = import_texts (texts_in (codes "keystores") d) (texts_in (codes "passwords") d) (get (codes "slashing_protection") d)

lives : (d : Data) → IfRead ListsOnce (live_at d)
lives d = then ListsOnce (key_at d) _ (λ key. then ListsOnce (number_at (codes "of") member.Of d) _ (λ epoch. then ListsOnce (truth_at (codes "is_live") member.IsLive d) _ (λ live. tt)))

ops : (chain : SessionChain) (name : Option (List ℕ)) (d : Data) → IfRead ListsOnce (by_op chain name d)
ops chain None d = tt
ops chain (Some name) d =
    by_test ListsOnce (bytes_eq name (codes "merge")) (merge_at d) _ (merges (text_at (codes "file") d))
    (by_test ListsOnce (bytes_eq name (codes "activate")) (activate_at d) _ (then ListsOnce (key_at d) _ (λ key. tt))
    (by_test ListsOnce (bytes_eq name (codes "import")) (import_at d) _ (imports d)
    (by_test ListsOnce (bytes_eq name (codes "delete")) (delete_at d) _ (then ListsOnce (keys_in (get (codes "pubkeys") d)) _ (λ keys. tt))
    (by_test ListsOnce (bytes_eq name (codes "list")) (Ok op.List) _ tt
    (by_test ListsOnce (bytes_eq name (codes "block")) (block_at chain d) _ (then ListsOnce (key_at d) _ (λ key. blocks_by chain key d (get (codes "header") d)))
    (by_test ListsOnce (bytes_eq name (codes "vote")) (vote_at chain d) _ (then ListsOnce (key_at d) _ (λ key. votes_by chain key d (get (codes "attestation") d)))
    (by_test ListsOnce (bytes_eq name (codes "export")) (export_at d) _ (then ListsOnce (asked_keys (get (codes "pubkeys") d)) _ (λ keys. tt))
    (by_test ListsOnce (bytes_eq name (codes "prune")) (prune_at d) _ (then ListsOnce (key_at d) _ (λ key. tt))
    (by_test ListsOnce (bytes_eq name (codes "live")) (live_at d) _ (lives d)
    (by_test ListsOnce (bytes_eq name (codes "compact")) (Ok op.Compact) _ tt tt))))))))))

-- ---- the moment

abbrev WithinLimit : Option ℕ → Type 0
WithinLimit epoch = unwrap_or epoch 0 ≤ moment_limit

le_from : (n m : ℕ) → nat_le n m ≡ true → n ≤ m
le_from n m e = grind (arith, common_steps)

moments_by : (b : Bool) (epoch : ℕ) → nat_le epoch moment_limit ≡ b → IfRead WithinLimit (cond b (Ok (Some epoch)) (Err member.Epoch))
moments_by true epoch e = le_from epoch moment_limit e
moments_by false epoch e = tt

moments : (o : Option ℕ) → IfRead WithinLimit (moment_in o)
moments None = tt
moments (Some epoch) = moments_by (nat_le epoch moment_limit) epoch refl

epochs : (o : Option Data) → IfRead WithinLimit (epoch_in o)
epochs None = omega arith
epochs (Some d) = moments (option_and_then quoted_number (as_str d))

-- ---- the request

abbrev pub IsSuch : Request → Type 0
IsSuch q = WithinLimit q.epoch × ListsOnce q.op

members_such : (chain : SessionChain) (d : Data) → IfRead IsSuch (members_of chain d)
members_such chain d = then_such ListsOnce IsSuch (op_in chain d) _ (ops chain (text_at (codes "op") d) d)
    (λ asked once. then_such WithinLimit IsSuch (epoch_at d) _ (epochs (get (codes "epoch") d)) (λ epoch within. (within, once)))

data_such : (chain : SessionChain) (d : Option Data) → IfRead IsSuch (of_data chain d)
data_such chain None = tt
data_such chain (Some d) = by_test IsSuch (is_some (as_object d)) (members_of chain d) (Err member.Line) (members_such chain d) tt

such : (chain : SessionChain) (line : List ℕ) → IfRead IsSuch (request_of chain line)
unfolding request_of
such chain line = data_such chain (data_of line)

pub within_limit : (chain : SessionChain) (line : List ℕ) (q : Result Request Member) → q ≡ request_of chain line → IfOk q (λ r. unwrap_or r.epoch 0 ≤ moment_limit)
within_limit chain line q e = at q (let P : Result Request Member → Type 0 = λ r. IfRead IsSuch r in subst P (sym e) (such chain line)) where
  at : (r : Result Request Member) → IfRead IsSuch r → IfOk r (λ r. unwrap_or r.epoch 0 ≤ moment_limit)
  at (Ok r) h = h.0
  at (Err m) h = tt

pub files_once : (chain : SessionChain) (line : List ℕ) (q : Result Request Member) → q ≡ request_of chain line → IfOk q (λ r. ListsOnce r.op)
files_once chain line q e = at q (let P : Result Request Member → Type 0 = λ r. IfRead IsSuch r in subst P (sym e) (such chain line)) where
  at : (r : Result Request Member) → IfRead IsSuch r → IfOk r (λ r. ListsOnce r.op)
  at (Ok r) h = h.1
  at (Err m) h = tt
