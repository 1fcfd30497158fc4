-- That a client's runs go on.
use Rattle.std.proofs.Common.{inl, inr, ⊎_elim, ℕ, suc, List, refl}
use Rattle.keymanager_api.specs.Serving.{LinkSeen}
use Rattle.serve_world.proofs.SessionRunLemmas.{command_goes_on, run_goes_on}
use Rattle.client_world.specs.Lives.{CommandLivesOn, ProxyLivesOn, ServiceLivesOn, SessionLivesOn}
use Rattle.serve_world.proofs.ServiceLemmas.{service_goes_on}
use Rattle.client_world.proofs.ProxyRunLemmas.{proxy_goes_on}

module _ {D C : Type 0} (shows : D → List ℕ → Type 0) (moment : D → ℕ) (leaves : D → ℕ → List ℕ → Type 0) (faults : D → ℕ) (see : C → LinkSeen) where
  pub session_lives : SessionLivesOn {D = D} {C = C} shows moment leaves faults see
  session_lives genesis journal fork altair signer_at watch disks_before disks_now before now noted ended ending client past files visible stop left lived = ⊎_elim
      (λ idle. inl idle)
      (λ x. inr (
        x,
        (
          suc lived.0,
          (
            past,
            lived.1,
            inl (record {
              fork = fork;
              altair = altair;
              watch = watch;
              before = before;
              now = now;
              noted = noted;
              ended = ended;
              files = files;
              stop = stop;
              first = disks_before;
              last = disks_now;
              served = x;
              are = refl;
            }),
          ),
        ),
      ))
      (run_goes_on shows moment leaves faults genesis journal fork altair signer_at watch disks_before disks_now before now noted ended ending client past files visible stop left)

  pub command_lives : CommandLivesOn {D = D} {C = C} shows moment leaves faults see
  command_lives genesis asked is disks_before disks_now before now noted ended ending client past files visible stop left lived = ⊎_elim
      (λ idle. inl idle)
      (λ x. inr (x, (suc lived.0, (past, lived.1, inr (inl (record { noted = noted; files = files; stop = stop; first = disks_before; last = disks_now; called = x; are = refl }))))))
      (command_goes_on shows moment leaves faults genesis asked is disks_before disks_now before now noted ended ending client past files visible stop left)

  pub service_lives : ServiceLivesOn {D = D} {C = C} shows moment leaves faults see
  service_lives clock options disks_before disks_now before now noted ended ending client past files visible stop left lived = ⊎_elim
      (λ unstarted. inl unstarted)
      (λ some. inr (
        some.0,
        some.1,
        some.2,
        λ acts tell. (
          suc lived.0,
          (
            past,
            lived.1,
            inr (inr (inl (record {
              clock = clock;
              options = options;
              chain = refl;
              before = before;
              now = now some.0;
              noted = noted;
              ended = ended;
              files = files;
              stop = stop;
              first = disks_before;
              last = disks_now;
              serviced = some.1;
              acts = acts;
              tell = tell;
              are = refl;
            }))),
          ),
        ),
      ))
      (service_goes_on moment leaves faults see shows clock options disks_before disks_now before now noted ended ending client past files visible stop left)

  pub proxy_lives : ProxyLivesOn {D = D} {C = C} shows moment leaves faults see
  proxy_lives clock options signer disks_before disks_now before now noted ended ending client past files visible stop left lived = ⊎_elim
      (λ not. inl not)
      (λ x. inr (
        x.0,
        x.1,
        λ acts tell. (
          suc lived.0,
          (
            past,
            lived.1,
            inr (inr (inr (record {
              clock = clock;
              options = options;
              chain = refl;
              signer = signer;
              before = before;
              now = now;
              noted = noted;
              ended = ended;
              files = files;
              stop = stop;
              first = disks_before;
              last = disks_now;
              proxied = x.0;
              acts = acts;
              tell = tell;
              are = refl;
            }))),
          ),
        ),
      ))
      (proxy_goes_on shows moment leaves faults see clock options signer disks_before disks_now before now noted ended ending client past files visible stop left)
